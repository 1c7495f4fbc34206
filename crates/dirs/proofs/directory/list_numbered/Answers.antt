use Rattle.std.proofs.Common.{rules, ◌≡◌, List, All, [], inl, inr, ◌<◌, ◌/◌, ap, sym, subst, add-one, arith}
use Rattle.std.proofs.lemmas.Bool.{cases_eq}
use Rattle.std.proofs.lemmas.List.Elements.{All-map}
use Rattle.layout.specs.Directory.{HoldsEntries}
use Rattle.inode.specs.Files.{file_block}
use Rattle.dirs.specs.Directory.{first_entries}
use Rattle.dirs.specs.Listings.{AddsNames, numbered_of}
use Rattle.dirs.specs.declared.directory.NumberedName.{NumberedName}
use Rattle.entries.specs.Entries.{IsObjectNumber}
use Rattle.dirs.proofs.ListingLaws.{adds_both, listing}
use Rattle.dirs.proofs.directory.list_numbered.Goals as goal

pub returns-in_err-add_names-clause-damaged : goal.returns-in_err-add_names-clause-damaged
returns-in_err-add_names-clause-damaged g c = λ disk shows is reached sound.
    let i = c.loop-i.i in
    let now = c.loop-i.invariant.read.same disk shows in
    let located = c.in_ok-location.ensures in
    let bytes = c.bytes.ensures disk (located.reads.same disk now) (located.found disk now) in
    let held = sound i (subst (λ s. i < s / 4096) c.size.ensures.value c.loop-i-test.true) in
    c.in_err-add_names.ensures.damaged (search rules) held.0 (subst (λ b. HoldsEntries c.args.inodes b held.0) (sym bytes) held.1)

pub loop-i-preserved : goal.loop-i-preserved
loop-i-preserved g c =
    let so_far = c.loop-i.invariant in
    let located = c.in_ok-location.ensures in
    let i = c.loop-i.i in
    let below : i < c.args.file.now.size / 4096 = subst (λ s. i < s / 4096) c.size.ensures.value c.loop-i-test.true in
    record {
      read = search rules;
      sound = λ disk shows j before.
          let now = so_far.read.same disk shows in
          let bytes = c.bytes.ensures disk (located.reads.same disk now) (located.found disk now) in
          let held = c.in_ok-add_names.ensures.sound in
          elim (cases_eq j i) [
            | inl here ↦ (held.0, subst (λ k. HoldsEntries c.args.inodes (file_block disk c.args.file.now k) held.0) (sym here) (subst (λ b. HoldsEntries c.args.inodes b held.0) bytes held.1))
            | inr else ↦ so_far.sound disk shows j (omega (arith, before, else))
          ];
      ordinary = c.in_ok-add_names.ensures.ordinary so_far.ordinary;
      adds = λ disk entries shows holds.
          let now = so_far.read.same disk shows in
          let bytes = c.bytes.ensures disk (located.reads.same disk now) (located.found disk now) in
          let here = c.in_ok-add_names.ensures.names (entries i) (subst (λ b. HoldsEntries c.args.inodes b (entries i)) (sym bytes) (holds i below)) in
          subst (λ k. AddsNames (first_entries entries k) [] c.add_names.new.names.entries) (sym (add-one i))
          (adds_both (first_entries entries i) (entries i) [] c.loop-i.names.entries c.add_names.new.names.entries (so_far.adds disk entries shows holds) here);
    }

pub returns-clause-listed : goal.returns-clause-listed
returns-clause-listed g c = λ disk names shows is.
    let end : c.size.result / 4096 ≡ c.args.file.now.size / 4096 = ap (λ s. s / 4096) c.size.ensures.value in
    let all : c.loop-i.i ≡ c.args.file.now.size / 4096 = omega (arith, end) in
    listing c.args.inodes (c.args.file.now.size / 4096) (file_block disk c.args.file.now) names c.loop-i.names.entries c.in_ok-in_order.field-0.items is
    (subst (λ k. AddsNames (first_entries is.entries k) [] c.loop-i.names.entries) all (c.loop-i.invariant.adds disk is.entries shows is.holds)) c.in_ok-in_order.ensures.same c.in_ok-in_order.ensures.ordered

pub returns-clause-ordinary : goal.returns-clause-ordinary
returns-clause-ordinary g c =
    let P : NumberedName → Type 0 = λ n. IsObjectNumber c.args.inodes n.number in
    subst (λ (listed : List NumberedName). All P listed) (sym c.in_ok-in_order.ensures.same) (All-map P numbered_of c.loop-i.names.entries c.loop-i.invariant.ordinary)
