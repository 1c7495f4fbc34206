use Rattle.std.proofs.Common.{◌∙◌, ◌∷◌, ◌++◌, [], ℕ, List, Option, ap, sym, subst, rules, Vec, Global}
use Rattle.std.specs.Prelude.{map}
use Rattle.std.proofs.lemmas.List.{append_assoc, append-nil, map-append}
use Rattle.model.specs.Paths.{Name}
use Rattle.snapshots.specs.Listed.{IsHigher, IsLeastAbove}
use Rattle.std.specs.Prelude.{IfSome}
use Rattle.layout.specs.declared.version.TheConstants.{SNAPSHOT_SLOTS}
use Rattle.snapshots.specs.declared.listing.Next.{Next}
use Rattle.snapshots.proofs.ListLaws.{names_of, next_at, next_listed, none_left}
use Rattle.snapshots.proofs.listing.names.Goals as goal

pub loop-names-preserved : goal.loop-names-preserved
loop-names-preserved g c = record {
  read = search rules;
  low = (subst (λ (x : Option Next). IfSome x (IsHigher c.args.root.now.geometry.blocks c.loop-names.above)) c.in-Some.is c.in_ok-next.ensures.higher).last;
  listed = λ disk shows v pairs holds.
      let so_far = c.loop-names.invariant.listed disk shows v pairs holds in
      let shown = c.loop-names.invariant.read.same disk shows in
      let least = subst (IsLeastAbove disk c.args.root.now c.loop-names.above SNAPSHOT_SLOTS) c.in-Some.is (c.in_ok-next.ensures.least disk shown) in
      let more = next_listed disk c.args.root.now c.requires.root holds.sound.snapshots c.loop-names.above so_far.0 c.in-Some.next c.in_ok-name.name.items least so_far.1
      (c.in_ok-name.ensures.name disk (c.next_above.ensures.reads.same disk shown)) in
      let names = map (λ (name : Vec ℕ Global). name.items) c.loop-names.names.items in
      let pushed = ap (map (λ (name : Vec ℕ Global). name.items)) c.in_ok-push.ensures.items ∙ map-append (λ (name : Vec ℕ Global). name.items) c.loop-names.names.items (c.in_ok-name.name ∷ []) in (
        more.0,
        more.1,
        so_far.2 ∙ ap (λ (xs : List Name). names ++ xs) more.2 ∙ sym (append_assoc names (c.in_ok-name.name.items ∷ []) (names_of more.0))
            ∙ ap (λ (xs : List Name). xs ++ names_of more.0) (sym pushed),
      );
}

pub returns-clause-names : goal.returns-clause-names
returns-clause-names g c disk shows v pairs holds =
    let so_far = c.loop-names.invariant.listed disk shows v pairs holds in
    let least = subst (IsLeastAbove disk c.args.root.now c.loop-names.above SNAPSHOT_SLOTS) c.in_default.is (c.in_ok-next.ensures.least disk (c.loop-names.invariant.read.same disk shows)) in
    let none = none_left disk c.args.root.now c.requires.root holds.sound.snapshots c.loop-names.above so_far.0 least so_far.1 in
    let names = map (λ name. name.items) c.loop-names.names.items in
    c.new.ensures ∙ sym (so_far.2 ∙ ap (λ rest. names ++ names_of rest) none ∙ append-nil names)

pub returns-in_err-name-clause-damaged : goal.returns-in_err-name-clause-damaged
returns-in_err-name-clause-damaged g c disk shows v pairs holds damaged =
    let r = c.args.root.now in
    let shown = c.loop-names.invariant.read.same disk shows in
    let least = subst (IsLeastAbove disk r c.loop-names.above SNAPSHOT_SLOTS) c.in-Some.is (c.in_ok-next.ensures.least disk shown) in
    c.in_err-name.ensures.damaged disk r.generation (c.next_above.ensures.reads.same disk shown) (search rules)
    (next_at disk r c.loop-names.above c.in-Some.next holds.sound.snapshots least)
