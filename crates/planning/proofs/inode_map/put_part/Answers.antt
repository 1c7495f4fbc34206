use Rattle.std.proofs.Common.{◌≡◌, List, ℕ, inl, inr, slice_index, ap, sym, subst, ◌∙◌, rules}
use Rattle.inode.specs.Files.{file_block}
use Rattle.planning.specs.Space.{TellsSame}
use Rattle.planning.proofs.inode_map.put_part.Goals as goal

pub returns-then-are_same-clause-here : goal.returns-then-are_same-clause-here
returns-then-are_same-clause-here g c = λ disk shows k lt.
    let same : c.bytes.result.now ≡ c.bytes-2.result.now = c.are_same.ensures.same c.if-are_same.true in
    ap (λ (b : List ℕ). slice_index b k) (sym (c.in_ok-before.ensures.bytes disk shows) ∙ sym c.bytes.ensures ∙ same ∙ c.bytes-2.ensures) ∙ c.in_ok-part.ensures k lt

pub returns-clause-only : goal.returns-clause-only
returns-clause-only g c = λ disk shows j changed. elim (c.set_block.ensures.only j changed) [
  | inl here ↦ inl (
    here,
    λ same.
        let before : c.bytes.result.now ≡ file_block disk c.args.file.now c.args.i = c.bytes.ensures ∙ c.in_ok-before.ensures.bytes disk shows in
        c.are_same.ensures.other c.if-are_same.false c.args.bytes.now c.args.i (λ k lt. ap (λ (b : List ℕ). slice_index b k) c.bytes-2.ensures ∙ c.in_ok-part.ensures k lt)
        (subst (λ (b : List ℕ). TellsSame c.args.bytes.now b c.args.i) (sym before) same),
  )
  | inr before ↦ inr (c.make_room.ensures.only j before)
]

pub returns-in_err-make_room-clause-file : goal.returns-in_err-make_room-clause-file
returns-in_err-make_room-clause-file g c = record {
  size = search rules;
  settled = search rules;
  sound = search rules;
  kept = search rules;
}

pub returns-clause-file : goal.returns-clause-file
returns-clause-file g c = record {
  size = search rules;
  settled = search rules;
  sound = search rules;
  kept = search rules;
}
