-- An entry put among others. Assumes nothing.
use Rattle.std.proofs.Common.{◌≡◌, ℕ, ◌+◌, ◌-◌, ◌<◌, ◌≤◌, List, [], ◌∷◌, ◌++◌, length, take, drop, set, sym, refl, ap, ◌∙◌, arith}
use borrow.Rule.Slice.PartMut.{put_mid, post_of}
use Rattle.std.proofs.lemmas.List.{append_assoc, length-drop, length_push, take-set-le, drop-set-add, take_more_set, drop_at, take_at, drop-drop, drop-set-lt}

-- an entry written behind the first `end` and turned in front of those from `at` on
pub turned_in : {X : Type 0} (xs ys : List X) (at end : ℕ) (e : X) → at ≤ end → end < length xs →
    (let part = take (end + 1 - at) (drop at (set xs end e)) in ys ≡ drop (length part - 1) part ++ take (length part - 1) part) →
    put_mid at (end + 1 - at) (set xs end e) ys ≡ (take at xs ++ e ∷ take (end - at) (drop at xs)) ++ drop (end + 1) xs
turned_in {X = X} xs ys at end e low room turned =
    ap (λ zs. put_mid at (end + 1 - at) (set xs end e) zs) (turned ∙ ap (λ zs. drop (length zs - 1) zs ++ take (length zs - 1) zs) part_is ∙ turn)
    ∙ ap (λ zs. zs ++ ((e ∷ moved) ++ post_of at (end + 1 - at) (set xs end e))) (take-set-le at xs end e low)
    ∙ ap (λ zs. take at xs ++ ((e ∷ moved) ++ zs)) behind
    ∙ sym (append_assoc (take at xs) (e ∷ moved) (drop (end + 1) xs))
  where
    moved : List X
    moved = take (end - at) (drop at xs)

    split : end ≡ at + (end - at)
    split = omega arith

    far : end - at < length (drop at xs)
    far = simp length-drop (omega arith)

    part_is : take (end + 1 - at) (drop at (set xs end e)) ≡ moved ++ e ∷ []
    part_is =
        let long : end + 1 - at ≡ end - at + 1 = omega arith in
        ap (λ n. take n (drop at (set xs end e))) long
        ∙ ap (λ n. take (end - at + 1) (drop at (set xs n e))) split
        ∙ ap (take (end - at + 1)) (drop-set-add at xs (end - at) e)
        ∙ take_more_set (drop at xs) (end - at) e far

    short : length (moved ++ e ∷ []) - 1 ≡ length moved
    short = let l = length_push moved e in omega (arith, l)

    turn : drop (length (moved ++ e ∷ []) - 1) (moved ++ e ∷ []) ++ take (length (moved ++ e ∷ []) - 1) (moved ++ e ∷ []) ≡ e ∷ moved
    turn =
        ap (λ n. drop n (moved ++ e ∷ []) ++ take n (moved ++ e ∷ [])) short
        ∙ ap (λ zs. zs ++ take (length moved) (moved ++ e ∷ [])) (drop_at moved (e ∷ []) (length moved) refl)
        ∙ ap (λ zs. (e ∷ []) ++ zs) (take_at moved (e ∷ []) (length moved) refl)

    behind : post_of at (end + 1 - at) (set xs end e) ≡ drop (end + 1) xs
    behind =
        let sum : at + (end + 1 - at) ≡ end + 1 = omega arith in
        drop-drop (end + 1 - at) at (set xs end e) ∙ ap (λ n. drop n (set xs end e)) sum ∙ drop-set-lt (end + 1) xs end e (omega arith)
