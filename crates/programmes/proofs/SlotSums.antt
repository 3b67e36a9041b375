-- Sums over the slots of a part of a call, as a chain takes them from a range. Assumes nothing.
use Rattle.std.proofs.Common.{◌≡◌, ℕ, zero, suc, ◌+◌, ◌-◌, ◌*◌, ◌^◌, ◌<◌, ◌≤◌, Bool, false, not, ◌&&◌, cond, List, [], ◌∷◌, Option, Some, None, Bor, length, take, drop, get_or, unwrap_or, filter, sum_by, Fits, w32, sym, refl, ap, ◌∙◌, ⊎_elim, arith}
use Rattle.std.proofs.Math.Facts.{Fits-lt-pow}
use Rattle.std.specs.List.{range_with_len, zip, PartBy}
use Rattle.std.proofs.lemmas.Bool.{cond_both, cases_order}
use Rattle.std.proofs.lemmas.Bool.Decides.{nat_tests}
use Rattle.std.proofs.lemmas.List.{get_or-take, get_or-drop, get_or_past, length-drop, length-take-le}
use Rattle.std.proofs.lemmas.List.Sums.{sum_by-cons}
use Rattle.books.specs.declared.call.Call.{Call}
use Rattle.books.specs.Calls.{first_slot, end_slot, covers}
use Rattle.programmes.specs.declared.part.Part.{Part}
use Rattle.programmes.specs.declared.part.Part.TheVariants.{Whole, Shared, Apart}
use Rattle.programmes.specs.Averages.{kw_in, slots_in}
use Rattle.programmes.specs.Parts.{call_of, holds}
use Rattle.programmes.specs.Sites.{in_call}
use Rattle.programmes.specs.Sums.{sum_below}
use Rattle.programmes.specs.SumLaws.{sum_none, sum_more, sum_bounded}

-- a sum, its first number apart
sum_front : (f : ℕ → ℕ) (n : ℕ) → sum_below f (suc n) ≡ f 0 + sum_below (λ k. f (suc k)) n
unfolding sum_below
sum_front f zero = omega arith
sum_front f (suc n) = let p = sum_front f n in omega arith

module _ (set : ℕ → Bool) where
  -- how many numbers of a range are in a set
  range_count : (f : ℕ → ℕ) (a n : ℕ) → ((k : ℕ) → f k ≡ cond (set (a + k)) 1 0) → length (filter set (range_with_len a n)) ≡ sum_below f n
  range_count f a zero each = sym (sum_none f)
  range_count f a (suc n) each =
      let later = range_count (λ k. f (suc k)) (a + 1) n (λ k. each (suc k) ∙ ap (λ i. cond (set i) 1 0) (omega arith)) in
      let first : f 0 ≡ cond (set a) 1 0 = each 0 ∙ ap (λ i. cond (set i) 1 0) (omega arith) in
      let all = sum_front f n in
      cond_both (set a) (a ∷ filter set (range_with_len (a + 1) n)) (filter set (range_with_len (a + 1) n)) (λ xs. length xs ≡ sum_below f (suc n))
      (λ t. let one = first ∙ ap (λ b. cond b 1 0) t in omega arith)
      (λ t. let none = first ∙ ap (λ b. cond b 1 0) t in omega arith)

  -- the sum of the readings whose slots are in a set
  range_sum : (f : ℕ → ℕ) (a n : ℕ) (day : List ℕ) → ((k : ℕ) → f k ≡ cond (set (a + k)) (get_or day k 0) 0) → sum_by (λ (p : ℕ × ℕ). p.1) (filter (λ (p : ℕ × ℕ). set p.0) (zip (range_with_len a n) day)) ≡ sum_below f n
  range_sum f a zero day each = sym (sum_none f)
  range_sum f a (suc n) [] each =
      let none : (k : ℕ) → f k ≤ 0 = λ k. cond_both (set (a + k)) 0 0 (λ x. f k ≡ x → f k ≤ 0) (λ _ e. omega arith) (λ _ e. omega arith) (each k) in
      let all = sum_bounded f 0 (suc n) (λ k l. none k) in
      omega arith
  range_sum f a (suc n) (x ∷ xs) each =
      let later = range_sum (λ k. f (suc k)) (a + 1) n xs (λ k. each (suc k) ∙ ap (λ i. cond (set i) (get_or xs k 0) 0) (omega arith)) in
      let first : f 0 ≡ cond (set a) x 0 = each 0 ∙ ap (λ i. cond (set i) x 0) (omega arith) in
      let all = sum_front f n in
      let rest = filter (λ (p : ℕ × ℕ). set p.0) (zip (range_with_len (a + 1) n) xs) in
      let more = sum_by-cons (λ (p : ℕ × ℕ). p.1) (a, x) rest in
      cond_both (set a) ((a, x) ∷ rest) rest (λ ps. sum_by (λ (p : ℕ × ℕ). p.1) ps ≡ sum_below f (suc n))
      (λ t. let one = first ∙ ap (λ b. cond b x 0) t in omega (arith, more))
      (λ t. let none = first ∙ ap (λ b. cond b x 0) t in omega arith)

-- a sum in two parts
sum_split : (f : ℕ → ℕ) (a n : ℕ) → sum_below f (a + n) ≡ sum_below f a + sum_below (λ k. f (a + k)) n
sum_split f a zero =
    let none = sum_none (λ k. f (a + k)) in
    let at : sum_below f (a + 0) ≡ sum_below f a = ap (sum_below f) (omega arith) in
    omega arith
sum_split f a (suc n) =
    let before = sum_split f a n in
    let more = sum_more f (a + n) in
    let rest = sum_more (λ k. f (a + k)) n in
    let here : sum_below f (a + suc n) ≡ sum_below f (a + n + 1) = ap (sum_below f) (omega arith) in
    let there : sum_below (λ k. f (a + k)) (suc n) ≡ sum_below (λ k. f (a + k)) (n + 1) = ap (sum_below (λ k. f (a + k))) (omega arith) in
    omega arith

-- a sum over a day, of numbers that are 0 outside some slots
sum_within : (f : ℕ → ℕ) (a n : ℕ) → a + n ≤ 96 → ((k : ℕ) → k < a → f k ≡ 0) → ((k : ℕ) → a + n ≤ k → f k ≡ 0) → sum_below (λ k. f (a + k)) n ≡ sum_below f 96
sum_within f a n ends before behind =
    let early = sum_bounded f 0 a (λ k l. let z = before k l in omega (arith, z)) in
    let late = sum_bounded (λ k. f (a + n + k)) 0 (96 - (a + n)) (λ k l. let z = behind (a + n + k) (omega arith) in omega (arith, z)) in
    let one = sum_split f a n in
    let two = sum_split f (a + n) (96 - (a + n)) in
    let all : sum_below f (a + n + (96 - (a + n))) ≡ sum_below f 96 = ap (sum_below f) (omega arith) in
    omega arith

-- a call covers no slot before its first, and none from its end on
covers_none_before : (c : Call) (k : ℕ) → k < first_slot c → covers c k ≡ false
covers_none_before c k l = grind (arith, nat_tests)

covers_none_behind : (c : Call) (k : ℕ) → end_slot c ≤ k → covers c k ≡ false
covers_none_behind c k l = grind (arith, nat_tests)

-- so a part of its slots has none there either
holds_none : (p : Part) (k : ℕ) → covers (call_of p) k ≡ false → holds p k ≡ false
holds_none (Whole c) k e = e
holds_none (Shared c other) k e = ap (λ b. b && in_call other k) e
holds_none (Apart c other) k e = ap (λ b. b && not (in_call other k)) e

module _ (p : Part) (a e : ℕ) (first : a ≡ first_slot (call_of p)) (end : e ≡ end_slot (call_of p)) where
  no_slot_before : (k : ℕ) (x : ℕ) → k < a → cond (holds p k) x 0 ≡ 0
  no_slot_before k x l = ap (λ b. cond b x 0) (holds_none p k (covers_none_before (call_of p) k (omega arith)))

  no_slot_behind : (k : ℕ) (x : ℕ) → a + (e - a) ≤ k → cond (holds p k) x 0 ≡ 0
  no_slot_behind k x l = ap (λ b. cond b x 0) (holds_none p k (covers_none_behind (call_of p) k (omega arith)))

  in_day : a + (e - a) ≤ 96
  in_day = let ends = (call_of p).ends in omega arith

  -- the readings of a part, of those of the day from the first slot of its call on
  pub part_sum : (day rest : List ℕ) → ((k : ℕ) → get_or rest k 0 ≡ get_or day (a + k) 0) → sum_by (λ (q : ℕ × ℕ). q.1) (filter (λ (q : ℕ × ℕ). holds p q.0) (zip (range_with_len a (e - a)) rest)) ≡ kw_in (holds p) (λ slot. get_or day slot 0)
  part_sum day rest each =
      range_sum (holds p) (λ k. cond (holds p (a + k)) (get_or day (a + k) 0) 0) a (e - a) rest (λ k. ap (λ x. cond (holds p (a + k)) x 0) (sym (each k)))
      ∙ sum_within (λ slot. cond (holds p slot) (get_or day slot 0) 0) a (e - a) in_day (λ k l. no_slot_before k _ l) (λ k l. no_slot_behind k _ l)

  -- how many slots a part has
  pub part_count : length (filter (holds p) (range_with_len a (e - a))) ≡ slots_in (holds p)
  part_count =
      range_count (holds p) (λ k. cond (holds p (a + k)) 1 0) a (e - a) (λ k. refl)
      ∙ sum_within (λ slot. cond (holds p slot) 1 0) a (e - a) in_day (λ k l. no_slot_before k _ l) (λ k l. no_slot_behind k _ l)

-- the readings of a day from a slot on, none where the day ends before it
pub rest_at : (day : List ℕ) (a : ℕ) (r : Option (Bor (List ℕ))) (none : Bor (List ℕ)) → none.now ≡ [] → PartBy (λ (b : Bor (List ℕ)). b.now) day a (length day) r → (k : ℕ) → get_or (unwrap_or r none).now k 0 ≡ get_or day (a + k) 0
rest_at day a None none e part k =
    let past : length day ≤ a + k = ⊎_elim (λ (h : length day < a). omega arith) (λ (h : length day < length day). omega arith) part.0 in
    ap (λ xs. get_or xs k 0) e ∙ sym (get_or_past day (a + k) 0 past)
rest_at day a (Some b) none e part k =
    let n = length day - a in
    let long = length-drop a day in
    let few = length-take-le n (drop a day) (omega (arith, long)) in
    let past : n ≤ k → get_or (take n (drop a day)) k 0 ≡ get_or day (a + k) 0 = λ h. get_or_past (take n (drop a day)) k 0 (omega arith) ∙ sym (get_or_past day (a + k) 0 (omega arith)) in
    ap (λ xs. get_or xs k 0) part.0.2
    ∙ ⊎_elim (λ (q : k ≡ n). past (omega arith))
    (⊎_elim (λ (q : k < n). get_or-take n (drop a day) k 0 q ∙ get_or-drop a day k 0) (λ (q : n < k). past (omega arith)))
    (cases_order k n)

-- readings of 32 bits
pub day_fits : (set : ℕ → Bool) (day : List ℕ) → ((k : ℕ) → Fits w32 (get_or day k 0)) → kw_in set (λ slot. get_or day slot 0) ≤ 96 * 2 ^ 32
day_fits set day fits =
    let all = sum_bounded (λ slot. cond (set slot) (get_or day slot 0) 0) (2 ^ 32) 96 (λ k l. let q : get_or day k 0 < 2 ^ 32 = Fits-lt-pow (fits k) in cond_both (set k) (get_or day k 0) 0 (λ x. x ≤ 2 ^ 32) (λ _. omega arith) (λ _. omega arith)) in
    omega arith
