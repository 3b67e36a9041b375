-- One write after another into a buffer. Assumes nothing.
use Rattle.std.proofs.Common.{◌≡◌, ℕ, ◌+◌, ◌≤◌, List, [], ◌∷◌, ◌++◌, length, take, drop, ℤ, pos, negsuc, nat_abs, ◌<ℤ◌, decimal, sym, refl, ap, ◌∙◌, subst, add-zero, arith}
use lib.Seq.{paste}
use Rattle.std.specs.Fmt.{signed_decimal}
use Rattle.std.proofs.lemmas.List.Edits.{paste_all, paste-paste}
use Rattle.std.proofs.lemmas.List.{length-append, length-drop, length-take-le, take-append-drop}
use Rattle.std.proofs.lemmas.Int.{ints}
use Rattle.bill.specs.PrintWrote.{Room, Wrote}

-- the part that is written first has room
pub room_first : {xs : List ℕ} {a : ℕ} (bs cs : List ℕ) → Room xs a (bs ++ cs) → Room xs a bs
room_first {xs} {a} bs cs h = record { fits = omega (arith, length-append bs cs, h.fits) }

-- a write leaves the buffer as long as it was
wrote_length : {xs bs ys : List ℕ} {a r : ℕ} → Room xs a bs → Wrote xs a bs r ys → length ys ≡ length xs
wrote_length {xs} {bs} {ys} {a} {r} h w =
    let front = length-take-le a xs (omega (arith, h.fits)) in
    let whole = ap length w.holds ∙ length-append (take a xs) (bs ++ drop (a + length bs) xs) in
    omega (arith, whole, front, length-append bs (drop (a + length bs) xs), length-drop (a + length bs) xs, h.fits)

-- and so has the other, behind it
pub room_then : {xs ys : List ℕ} {a r : ℕ} (bs cs : List ℕ) → Room xs a (bs ++ cs) → Wrote xs a bs r ys → Room ys r cs
room_then {xs} {ys} {a} {r} bs cs h w =
    record { fits = omega (arith, wrote_length (room_first bs cs h) w, length-append bs cs, h.fits, w.stops) }

-- two writes, one right behind the other, are one
pub then_wrote : {xs ys zs bs cs : List ℕ} {a r s : ℕ} → Room xs a (bs ++ cs) → Wrote xs a bs r ys → Wrote ys r cs s zs → Wrote xs a (bs ++ cs) s zs
then_wrote {xs} {ys} {zs} {bs} {cs} {a} {r} {s} h v w =
    let n = length bs in
    let m = length cs in
    let within : a ≤ length xs = omega (arith, h.fits) in
    let whole : n + m ≡ length (bs ++ cs) = sym (length-append bs cs) in
    let first : ys ≡ paste xs a bs n = v.holds ∙ sym (paste_all xs a bs n refl) in
    let second : zs ≡ paste ys r cs m = w.holds ∙ sym (paste_all ys r cs m refl) in
    let moved : paste ys r cs m ≡ paste (paste xs a bs n) (a + n) cs m = ap (λ (l : List ℕ). paste l r cs m) first ∙ ap (λ (k : ℕ). paste (paste xs a bs n) k cs m) v.stops in
    let joined : paste (paste xs a bs n) (a + n) cs m ≡ paste xs a (bs ++ cs) (n + m) = paste-paste xs a bs cs n m refl refl within in
    let all : paste xs a (bs ++ cs) (n + m) ≡ take a xs ++ ((bs ++ cs) ++ drop (a + (n + m)) xs) = paste_all xs a (bs ++ cs) (n + m) whole in
    record {
      stops = omega (arith, length-append bs cs, v.stops, w.stops);
      holds = second ∙ (moved ∙ (joined ∙ (all ∙ ap (λ (k : ℕ). take a xs ++ ((bs ++ cs) ++ drop (a + k) xs)) whole)));
    }

-- where nothing is written, nothing changes
pub wrote_nothing : (xs : List ℕ) (a : ℕ) → Wrote xs a [] a xs
wrote_nothing xs a =
    record { stops = sym (add-zero a); holds = sym (take-append-drop a xs) ∙ ap (λ (k : ℕ). take a xs ++ drop k xs) (sym (add-zero a)) }

-- the same bytes under another name
pub room_as : {xs bs cs : List ℕ} {a : ℕ} → bs ≡ cs → Room xs a bs → Room xs a cs
room_as {xs} {bs} {cs} {a} e h = subst (λ (l : List ℕ). Room xs a l) e h

pub wrote_as : {xs bs cs ys : List ℕ} {a r : ℕ} → bs ≡ cs → Wrote xs a bs r ys → Wrote xs a cs r ys
wrote_as {xs} {bs} {cs} {ys} {a} {r} e w = subst (λ (l : List ℕ). Wrote xs a l r ys) e w

-- the same place and the same buffer under other names
pub wrote_left : {xs bs ys zs : List ℕ} {a r s : ℕ} → s ≡ r → zs ≡ ys → Wrote xs a bs r ys → Wrote xs a bs s zs
wrote_left e f w = record { stops = e ∙ w.stops; holds = f ∙ w.holds }

-- a negative number is its digits, with a minus sign in front
pub signed_below : (z : ℤ) (n : ℕ) → z <ℤ pos 0 → n ≡ nat_abs z → (45 ∷ decimal n) ≡ signed_decimal z
signed_below (pos k) n h e = absurd (omega (arith, ints, h))
signed_below (negsuc k) n h e = ap (λ (m : ℕ). 45 ∷ decimal m) e

-- and another is its digits
pub signed_from_zero : (z : ℤ) (n : ℕ) → ¬ (z <ℤ pos 0) → n ≡ nat_abs z → decimal n ≡ signed_decimal z
signed_from_zero (pos k) n h e = ap decimal e
signed_from_zero (negsuc k) n h e = absurd (h (omega (arith, ints)))
