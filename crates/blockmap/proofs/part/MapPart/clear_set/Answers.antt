use Rattle.std.proofs.Common.{◌≡◌, ℕ, Vec, Global, List, true, false, length, slice_index, refl, ap, sym, subst, ◌∙◌, arith}
use Rattle.std.specs.Prelude.{is_some, Option}
use Rattle.std.specs.Option.{option_map}
use Rattle.blockmap.specs.Bits.{SetsPlane}
use Rattle.std.proofs.lemmas.List.{with_items_is}
use Rattle.blockmap.specs.Parts.{HasSet, Part, or_else}
use Rattle.blockmap.proofs.BitLemmas.{plane_cleared, plane_empty}
use Rattle.blockmap.proofs.part.MapPart.clear_set.Goals.{in-Some, in_default}
use Rattle.blockmap.proofs.part.MapPart.clear_set.Goals as goal

pub returns-clause-entries : goal.returns-clause-entries
returns-clause-entries c = elim c.match-self.branch [
  | in-Some w ↦
      let entries_is : c.args.self.now.entries ≡ w.in-Some.entries.items = ap (λ (p : Part). p.entries) (sym c.self.view_is)
      ∙ ap (λ (o : Option (Vec ℕ Global)). or_else (option_map {T = Vec ℕ Global} {U = List ℕ} (λ v. v.items) o) c.self.inside.settled.items) w.in-Some.is in
      let size : length w.deref_mut.result.now ≡ 1024 = ap length (w.deref_mut.ensures.value ∙ sym entries_is) ∙ ap (λ (p : Part). length p.entries) (sym c.self.view_is) ∙ c.self.invariant.entries in
      let back = with_items_is w.in-Some.entries w.and_all.new.entries (w.and_all.ensures.length ∙ ap length w.deref_mut.ensures.value ∙ sym w.in-Some.entries.ok.0) in
      rw w.self-inside-is (subst (λ (xs : List ℕ). SetsPlane 1024 c.args.set (λ i. 0) (slice_index c.args.self.now.entries) (slice_index xs)) (sym back)
      (plane_cleared 1024 c.args.set (slice_index c.args.self.now.entries) (slice_index w.and_all.new.entries) c.requires.set
      (λ k. rw (entries_is, ← w.deref.ensures.value) (w.are_words.ensures k))
      (λ k below. rw (entries_is, ← w.deref_mut.ensures.value) (w.and_all.ensures.bits k (omega (arith, size, below))))))
  | in_default w ↦
      let no : is_some (option_map {T = Vec ℕ Global} {U = List ℕ} (λ v. v.items) c.self.inside.changed) ≡ false = rw w.in_default.is refl in
      let untouched : HasSet c.args.set c.args.self.now.entries → ⊥ = λ has. (
      let yes : is_some (option_map {T = Vec ℕ Global} {U = List ℕ} (λ v. v.items) c.self.inside.changed) ≡ true = ap (λ (p : Part). p.is_touched) c.self.view_is ∙ c.requires.room has in
      cc
      ) in
      rw w.self-inside-is (subst (λ (p : Part). SetsPlane 1024 c.args.set (λ i. 0) (slice_index c.args.self.now.entries) (slice_index p.entries)) (sym c.self.view_is)
      (plane_empty 1024 c.args.set (slice_index c.args.self.now.entries) (λ k below bit. untouched (k, below, bit))))
]
