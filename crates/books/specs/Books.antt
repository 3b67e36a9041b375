-- What a date book holds and what a booking does, for every kind of entry with a key. Assumes nothing.
use Rattle.std.specs.Prelude.{◌≡◌, ℕ, ◌<◌, cond, ◌⊎◌, List, [], ◌∷◌, ◌++◌, length, take, drop, is_some, is_ok, Some, None, Ok, Err, Option, Result, ◌==◌, nat_le, nat_lt}
use Rattle.std.specs.List.{prefix_len}
use Rattle.calendar.specs.declared.refusal.Refusal.{Refusal}
use Rattle.calendar.specs.declared.refusal.Refusal.TheVariants.{KeyAlreadyBooked, BookFull}

-- the entry with this key, if there is one
abbrev pub found : {E : Type 0} → (E → ℕ) → ℕ → List E → Option E
found key k [] = None
found key k (e ∷ es) = cond (key e == k) (Some e) (found key k es)

-- how many entries in front have keys smaller than this one
abbrev pub place_of : {E : Type 0} → (E → ℕ) → ℕ → List E → ℕ
place_of key k es = prefix_len (λ e. nat_lt (key e) k) es

-- the entries with one more, behind those in front of smaller keys
abbrev pub placed : {E : Type 0} → (E → ℕ) → E → List E → List E
placed key e es = take (place_of key (key e) es) es ++ e ∷ drop (place_of key (key e) es) es

-- what a booking is answered, over the entries held and the places that there are: refused where an entry has the key,
-- and then where an entry stands in every place
abbrev pub booking_answer : {E : Type 0} → (E → ℕ) → List E → ℕ → E → Result (Unit {0}) Refusal
booking_answer key es places e =
    cond (is_some (found key (key e) es)) (Err KeyAlreadyBooked)
    (cond (nat_le places (length es)) (Err BookFull) (Ok tt))

-- the entries that a booking leaves: granted, the entry stands at its place; refused, they are as they were
abbrev pub after_booking : {E : Type 0} → (E → ℕ) → List E → ℕ → E → List E
after_booking key es places e = cond (is_ok (booking_answer key es places e)) (placed key e es) es

-- every key is larger than k
abbrev pub Above : {E : Type 0} → (E → ℕ) → ℕ → List E → Type 0
Above key k [] = Unit {0}
Above key k (e ∷ es) = (k < key e) × Above key k es

-- the keys rise from entry to entry, and so no key comes twice
abbrev pub Rising : {E : Type 0} → (E → ℕ) → List E → Type 0
Rising key [] = Unit {0}
Rising key (e ∷ es) = Above key (key e) es × Rising key es

-- the entry is one of these
abbrev pub Among : {E : Type 0} → E → List E → Type 0
Among e [] = ⊥
Among e (x ∷ xs) = (e ≡ x) ⊎ Among e xs

-- rising lists with the same members are the same list, in whatever order the members were booked
abbrev pub MembersDetermine : {E : Type 0} → (E → ℕ) → Type 0
MembersDetermine {E} key =
    (es fs : List E) → Rising key es → Rising key fs → ((e : E) → Among e es → Among e fs) → ((e : E) → Among e fs → Among e es) → es ≡ fs
