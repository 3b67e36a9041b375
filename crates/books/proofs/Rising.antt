-- A granted booking keeps the keys rising, and rising lists with the same members are the same. Assumes nothing.
use Rattle.std.proofs.Common.{◌≡◌, ℕ, ◌+◌, ◌-◌, ◌<◌, ◌≤◌, min, Bool, true, false, cond, eqb, ltb, leb, List, [], ◌∷◌, ◌++◌, length, take, drop, is_some, is_ok, Some, None, Ok, Err, Option, Result, sym, refl, ap, ◌∙◌, subst, inl, inr, one-add, arith}
use Rattle.std.proofs.lemmas.List.{length-take, length-drop, length-append, take-take, drop-take, take_at, drop_at}
use Rattle.std.proofs.lemmas.List.Sums.{prefix_len-le-length}
use Rattle.std.proofs.lemmas.Bool.{cases_Bool, ltb-true, ltb-false, eqb-false, leb-false}
use Rattle.calendar.specs.declared.refusal.Refusal.{Refusal}
use Rattle.calendar.specs.declared.refusal.Refusal.TheVariants.{KeyAlreadyBooked, BookFull}
use Rattle.books.specs.Books.{found, place_of, placed, booking_answer, after_booking, Above, Rising, Among, MembersDetermine}

module _ {E : Type 0} (key : E → ℕ) where
  -- an entry goes past those in front of smaller keys
  placed_more : (e x : E) (xs : List E) → placed key e (x ∷ xs) ≡ cond (ltb (key x) (key e)) (x ∷ placed key e xs) (e ∷ (x ∷ xs))
  placed_more e x xs = by_test (ltb (key x) (key e))
    where
      by_test : (b : Bool) → take (cond b (1 + place_of key (key e) xs) 0) (x ∷ xs) ++ e ∷ drop (cond b (1 + place_of key (key e) xs) 0) (x ∷ xs) ≡ cond b (x ∷ placed key e xs) (e ∷ (x ∷ xs))
      by_test true = ap (λ n. take n (x ∷ xs) ++ e ∷ drop n (x ∷ xs)) (one-add (place_of key (key e) xs))
      by_test false = refl

  above_placed : (k : ℕ) (e : E) (es : List E) → k < key e → Above key k es → Above key k (placed key e es)
  above_placed k e [] h a = (h, tt)
  above_placed k e (x ∷ xs) h a = subst (Above key k) (sym (placed_more e x xs)) (by_test (above_placed k e xs h a.1) (ltb (key x) (key e)))
    where
      by_test : Above key k (placed key e xs) → (b : Bool) → Above key k (cond b (x ∷ placed key e xs) (e ∷ (x ∷ xs)))
      by_test rest true = (a.0, rest)
      by_test rest false = (h, a)

  above_less : (j k : ℕ) (es : List E) → j < k → Above key k es → Above key j es
  above_less j k [] h a = tt
  above_less j k (x ∷ xs) h a = (let b = a.0 in omega arith, above_less j k xs h a.1)

  -- no entry has the key of the first, nor of the others
  none_first : (k : ℕ) (x : E) (xs : List E) → found key k (x ∷ xs) ≡ None → (key x ≡ k → ⊥) × (found key k xs ≡ None)
  none_first k x xs e =
      elim (cases_Bool (eqb (key x) k)) [
        | inl t ↦ absurd (let z : ◌≡◌ {A = ℕ} 0 1 = cc in omega arith)
        | inr f ↦ (eqb-false (key x) k f, sym (ap (λ b. cond b (Some x) (found key k xs)) f) ∙ e)
      ]

  pub rising_placed : (e : E) (es : List E) → found key (key e) es ≡ None → Rising key es → Rising key (placed key e es)
  rising_placed e [] n r = (tt, tt)
  rising_placed e (x ∷ xs) n r = subst (Rising key) (sym (placed_more e x xs)) (by_test (rising_placed e xs (none_first (key e) x xs n).1 r.1) (ltb (key x) (key e)) refl)
    where
      by_test : Rising key (placed key e xs) → (b : Bool) → ltb (key x) (key e) ≡ b → Rising key (cond b (x ∷ placed key e xs) (e ∷ (x ∷ xs)))
      by_test rest true t = (above_placed (key x) e xs (ltb-true (key x) (key e) t) r.0, rest)
      by_test rest false f =
          let large = ltb-false (key x) (key e) f in
          let other = (none_first (key e) x xs n).0 in
          let less : key e < key x = omega (arith, large, other) in
          ((less, above_less (key e) (key x) xs less r.0), r)

  -- what a granted booking found: no entry of the key, and a place without one
  pub granted_parts : (es : List E) (places : ℕ) (e : E) → booking_answer key es places e ≡ Ok tt → (found key (key e) es ≡ None) × (length es < places)
  granted_parts es places e g = by_found (found key (key e) es) refl
    where
      by_room : (b : Bool) → leb places (length es) ≡ b → ◌≡◌ {A = Result (Unit {0}) Refusal} (cond b (Err BookFull) (Ok tt)) (Ok tt) → length es < places
      by_room true t f = absurd (let z : ◌≡◌ {A = ℕ} 0 1 = cc in omega arith)
      by_room false t f = leb-false places (length es) t

      by_found : (o : Option E) → found key (key e) es ≡ o → (found key (key e) es ≡ None) × (length es < places)
      by_found None n = (n, by_room (leb places (length es)) refl (sym (ap (λ o. cond (is_some o) (Err KeyAlreadyBooked) (cond (leb places (length es)) (Err BookFull) (Ok tt))) n) ∙ g))
      by_found (Some x) s =
          let refused : ◌≡◌ {A = Result (Unit {0}) Refusal} (Err KeyAlreadyBooked) (Ok tt) = sym (ap (λ o. cond (is_some o) (Err KeyAlreadyBooked) (cond (leb places (length es)) (Err BookFull) (Ok tt))) s) ∙ g in
          absurd (let z : ◌≡◌ {A = ℕ} 0 1 = cc in omega arith)

  -- the storage after a granted booking: the entries with the new one at its place, and then what stood behind
  module _ (xs ys : List E) (n : ℕ) (e : E) (room : n < length xs)
      (wrote : (let at = place_of key (key e) (take n xs) in ys ≡ (take at xs ++ e ∷ take (n - at) (drop at xs)) ++ drop (n + 1) xs)) where
    at : ℕ
    at = place_of key (key e) (take n xs)

    at_low : at ≤ n
    unfolding at
    at_low = let a = prefix_len-le-length (λ x. ltb (key x) (key e)) (take n xs) in let b = length-take n xs in omega (arith, a, b)

    front : take at xs ++ e ∷ take (n - at) (drop at xs) ≡ placed key e (take n xs)
    unfolding at
    front =
        let low = at_low in
        let split : n ≡ at + (n - at) = omega arith in
        ap (λ zs. zs ++ e ∷ take (n - at) (drop at xs)) (sym (take-take at n xs low))
        ∙ ap (λ zs. take at (take n xs) ++ e ∷ zs) (sym (drop-take at (n - at) xs) ∙ ap (λ m. drop at (take m xs)) (sym split))

    front_long : length (take at xs ++ e ∷ take (n - at) (drop at xs)) ≡ n + 1
    front_long = let low = at_low in simp (length-append, length-take, length-drop) (omega arith)

    pub after_entries : (m : ℕ) → m ≡ n + 1 → take m ys ≡ placed key e (take n xs)
    unfolding at
    after_entries m e' = ap (λ k. take k ys) e' ∙ ap (take (n + 1)) wrote ∙ take_at _ (drop (n + 1) xs) (n + 1) front_long ∙ front

    pub after_rest : (m : ℕ) → m ≡ n + 1 → drop m ys ≡ drop m xs
    unfolding at
    after_rest m e' = ap (λ k. drop k ys) e' ∙ ap (drop (n + 1)) wrote ∙ drop_at _ (drop (n + 1) xs) (n + 1) front_long ∙ ap (λ k. drop k xs) (sym e')

    pub after_long : length ys ≡ length xs
    unfolding at
    after_long =
        let a = ap length wrote in
        let b = length-append (take at xs ++ e ∷ take (n - at) (drop at xs)) (drop (n + 1) xs) in
        let c = front_long in
        let d = length-drop (n + 1) xs in
        omega (arith, a, b, c, d)

  -- all of it, from what the steps of a granted booking say
  pub record Booked (xs ys : List E) (n end : ℕ) (e : E) : Type 0 where
    pub entries : take (min (end + 1) (length ys)) ys ≡ after_booking key (take n xs) (length xs) e
    pub rest : drop (min (end + 1) (length ys)) ys ≡ drop (min (end + 1) (length ys)) xs
    pub long : length ys ≡ length xs
    pub rises : Rising key (take n xs) → Rising key (take (min (end + 1) (length ys)) ys)

  pub booked : (xs ys : List E) (n end at : ℕ) (e : E) → n ≤ length xs → booking_answer key (take n xs) (length xs) e ≡ Ok tt → end ≡ length (take n xs) → at ≡ place_of key (key e) (take n xs) → ys ≡ (take at xs ++ e ∷ take (end - at) (drop at xs)) ++ drop (end + 1) xs → Booked xs ys n end e
  booked xs ys n end at e low granted end_is at_is wrote =
      record {
        entries = placed_there ∙ ap (λ r. cond (is_ok r) (placed key e (take n xs)) (take n xs)) (sym granted);
        rest = after_rest xs ys n e room wrote' (min (end + 1) (length ys)) held;
        long = long;
        rises = λ r. subst (Rising key) (sym placed_there) (rising_placed e (take n xs) (granted_parts (take n xs) (length xs) e granted).0 r);
      }
    where
      end_n : end ≡ n
      end_n = let l = length-take n xs in omega (arith, l)

      room : n < length xs
      room = let l = length-take n xs in let g = (granted_parts (take n xs) (length xs) e granted).1 in omega (arith, l, g)

      wrote' : ys ≡ (take (place_of key (key e) (take n xs)) xs ++ e ∷ take (n - place_of key (key e) (take n xs)) (drop (place_of key (key e) (take n xs)) xs)) ++ drop (n + 1) xs
      wrote' =
          wrote
          ∙ ap (λ a. (take a xs ++ e ∷ take (end - a) (drop a xs)) ++ drop (end + 1) xs) at_is
          ∙ ap (λ m. (take (place_of key (key e) (take n xs)) xs ++ e ∷ take (m - place_of key (key e) (take n xs)) (drop (place_of key (key e) (take n xs)) xs)) ++ drop (m + 1) xs) end_n

      long : length ys ≡ length xs
      long = after_long xs ys n e room wrote'

      held : min (end + 1) (length ys) ≡ n + 1
      held = let a = end_n in let b = long in let c = room in omega (arith, a, b, c)

      placed_there : take (min (end + 1) (length ys)) ys ≡ placed key e (take n xs)
      placed_there = after_entries xs ys n e room wrote' (min (end + 1) (length ys)) held

  -- a member of a list above k has a larger key
  member_above : (k : ℕ) (e : E) (es : List E) → Above key k es → Among e es → k < key e
  member_above k e [] a m = absurd m
  member_above k e (x ∷ xs) a m =
      elim m [ inl same ↦ subst (λ (y : E). k < key y) (sym same) a.0 | inr rest ↦ member_above k e xs a.1 rest ]

  -- the first of two rising lists with the same members are the same, since each is among the other's and neither has the larger key
  same_first : (x y : E) (xs ys : List E) → Above key (key x) xs → Above key (key y) ys → Among x (y ∷ ys) → Among y (x ∷ xs) → x ≡ y
  same_first x y xs ys a b m n =
      elim m [
        | inl same ↦ same
        | inr later ↦ elim n [
          | inl same ↦ sym same
          | inr later' ↦
              let p = member_above (key y) x ys b later in
              let q = member_above (key x) y xs a later' in
              absurd (omega (arith, p, q))
        ]
      ]

  -- what is among the others of one is among the others of the other
  later_too : (x y e : E) (xs ys : List E) → x ≡ y → Above key (key x) xs → Among e xs → Among e (y ∷ ys) → Among e ys
  later_too x y e xs ys same a m n =
      elim n [
        | inl first ↦
            let p = member_above (key x) e xs a m in
            let q = ap key (first ∙ sym same) in
            absurd (omega (arith, p, q))
        | inr rest ↦ rest
      ]

  pub members_determine : MembersDetermine key
  members_determine [] [] r s to from = refl
  members_determine [] (y ∷ ys) r s to from = absurd (from y (inl refl))
  members_determine (x ∷ xs) [] r s to from = absurd (to x (inl refl))
  members_determine (x ∷ xs) (y ∷ ys) r s to from =
      let first : x ≡ y = same_first x y xs ys r.0 s.0 (to x (inl refl)) (from y (inl refl)) in
      let rest : xs ≡ ys =
      members_determine xs ys r.1 s.1
      (λ e m. later_too x y e xs ys first r.0 m (to e (inr m)))
      (λ e m. later_too y x e ys xs (sym first) s.0 m (from e (inr m))) in
      cc
