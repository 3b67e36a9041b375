use Rattle.std.proofs.Common.{ℕ, List, [], ◌∷◌, ◌++◌, ◌∙◌}
use Rattle.bill.specs.PrintText.{line}
use Rattle.bill.specs.PrintValues.{shown}
use Rattle.bill.specs.PrintWrote.{Room, Wrote}
use Rattle.bill.proofs.Writing.{room_first, room_then, then_wrote}
use Rattle.bill.proofs.write.Writer.line.Goals as goal

-- behind its key and behind the sign, the rest of a line has room
after_key : {xs ys : List ℕ} {a r : ℕ} (key value : List ℕ) → Room xs a (line key value) → Wrote xs a key r ys → Room ys r (61 ∷ (value ++ (10 ∷ [])))
unfolding line
after_key key value h w = room_then key (61 ∷ (value ++ (10 ∷ []))) h w

after_sign : {xs ys zs : List ℕ} {a r s : ℕ} (key value : List ℕ) → Room xs a (line key value) → Wrote xs a key r ys → Wrote ys r (61 ∷ []) s zs → Room zs s (value ++ (10 ∷ []))
after_sign key value h w v = room_then (61 ∷ []) (value ++ (10 ∷ [])) (after_key key value h w) v

pub bytes-requires : goal.bytes-requires
unfolding line
bytes-requires c = room_first c.args.key.now (61 ∷ (shown c.args.value ++ (10 ∷ []))) c.requires

pub byte-requires : goal.byte-requires
byte-requires c =
    room_first (61 ∷ []) (shown c.args.value ++ (10 ∷ [])) (after_key c.args.key.now (shown c.args.value) c.requires c.bytes.ensures.wrote)

pub value-requires : goal.value-requires
value-requires c =
    room_first (shown c.args.value) (10 ∷ []) (after_sign c.args.key.now (shown c.args.value) c.requires c.bytes.ensures.wrote c.byte.ensures.wrote)

pub byte-requires-2 : goal.byte-requires-2
byte-requires-2 c =
    room_then (shown c.args.value) (10 ∷ []) (after_sign c.args.key.now (shown c.args.value) c.requires c.bytes.ensures.wrote c.byte.ensures.wrote) c.value.ensures.wrote

pub returns : goal.returns
unfolding line
returns c =
    let key = after_key c.args.key.now (shown c.args.value) c.requires c.bytes.ensures.wrote in
    let sign = after_sign c.args.key.now (shown c.args.value) c.requires c.bytes.ensures.wrote c.byte.ensures.wrote in
    record {
      wrote = then_wrote c.requires c.bytes.ensures.wrote (then_wrote key c.byte.ensures.wrote (then_wrote sign c.value.ensures.wrote c.byte-2.ensures.wrote));
      same_loan =
          c.byte-2.ensures.same_loan
          ∙ (c.value.ensures.same_loan ∙ (c.byte.ensures.same_loan ∙ c.bytes.ensures.same_loan));
    }
