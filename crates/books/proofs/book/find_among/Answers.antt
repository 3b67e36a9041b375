use Rattle.std.proofs.Common.{◌≡◌, ℕ, cond, List, [], ◌∷◌, Some, None, Option, Bor, refl, ap, ◌∙◌, rules, eqb}
use Rattle.std.proofs.lemmas.Iterator.{YieldsList-from_slice}
use Rattle.std.proofs.lemmas.Iterator.Search.{find_from_yields_List}
use Rattle.std.specs.List.{find}
use Rattle.std.specs.Option.{option_copied, option_map}
use borrow.Author.Tests.{tests}
use Rattle.books.specs.Books.{found}
use Rattle.books.proofs.book.find_among.Goals as goal

-- a copied reference is what it points to
copied : {E : Type 0} (o : Option (Bor E)) → option_copied o ≡ option_map (λ b. b.now) o
copied None = refl
copied (Some b) = refl

-- the entry found is the first that has the key
first : {E : Type 0} (key : E → ℕ) (k : ℕ) (es : List E) → find (λ e. eqb (key e) k) es ≡ found key k es
first key k [] = refl
first key k (e ∷ es) = ap (cond (eqb (key e) k) (Some e)) (first key k es)

pub returns : goal.returns
returns g c =
    let key = g.E.Entry.keyed in
    c.copied.ensures
    ∙ (copied c.find.result
    ∙ (find_from_yields_List (λ e. eqb (key e) c.args.key) _ _ _ c.find.ensures.ran (YieldsList-from_slice c.args.entries.now cc) (λ x b q k. search (rules, tests))
    ∙ first key c.args.key c.args.entries.now))
