use Rattle.std.proofs.Common.{◌≡◌, ◌∙◌, false, true, Ok, None, Option, ap, sym}
use Rattle.std.specs.Option.{is_some}
use Rattle.images.specs.Faults.{HoldsGraph}
use Rattle.images.specs.Roots.{whole}
use Rattle.checker.specs.Findings.{IsTreeFinding, tree_in}
use Rattle.checker.specs.Trees.{IsOut}
use Rattle.checker.specs.declared.fault.Fault.{Fault}
use Rattle.checker.proofs.EachTreeLaws.{TreeLaws, ended_fault, ended_names, ended_none, ended_out, ended_shared, found_out, none_of, passed, so_far, tree_at}
use Rattle.checker.proofs.checking.check_tree.Given.{Over}
use Rattle.checker.proofs.checking.check_tree.Goals as goal
use Rattle.checker.proofs.checking.check_tree.Goals.{After-is_out}

-- ---- what the look stands on

laws : (g : Over) (c : After-is_out g) → TreeLaws
laws g c = record {
  spells = c.inodes_are_what_their_bytes_spell.ensures.spelled;
  ends = c.inodes_are_what_their_bytes_spell.ensures.past;
  led = c.blocks_are_where_pointers_lead.ensures;
  inline = c.inline_bytes_are_the_first_block.ensures.others;
}

-- a tree that isn't out of its grammar
inside : (g : Over) (c : After-is_out g) → c.is_out.result ≡ false → IsOut c.args.tree.now.fault → ⊥
inside g c false_is out = let true_is = c.is_out.ensures.1 out in cc

pub returns-then-is_out-clause-checked : goal.returns-then-is_out-clause-checked
returns-then-is_out-clause-checked g c disk r marks shows knows over seen =
    ended_out (laws g (goal.at.returns-then-is_out-clause-checked g c).After-is_out) disk r over seen (c.is_out.ensures.0 c.if-is_out.true)

pub returns-in-Some-clause-checked : goal.returns-in-Some-clause-checked
returns-in-Some-clause-checked g c disk r marks shows knows over seen =
    let at = (goal.at.returns-in-Some-clause-checked g c).After-is_out in
    let not = inside g at c.if-is_out.false in
    let shares = seen.shared_is not c.in-Some.shared c.in-Some.is in
    let found = c.in_ok-first.ensures.stands disk r shows (tree_at (laws g at) disk r over seen not) shares in
    ended_shared (laws g at) disk r over seen c.in-Some.shared c.in_ok-first.first not shares.again found.0 found.1 c.add.new.self c.add.ensures

pub returns-then-is_some-clause-checked : goal.returns-then-is_some-clause-checked
returns-then-is_some-clause-checked g c disk r marks shows knows over seen =
    let at = (goal.at.returns-then-is_some-clause-checked g c).After-is_out in
    ended_fault (laws g at) disk r over seen (inside g at c.if-is_out.false) c.in_default.is
    (λ none. (let e : true ≡ false = sym c.if-is_some.true ∙ c.is_some.ensures ∙ ap (λ (o : Option Fault). is_some o) none in absurd (cc)))

pub returns-in_default-2-clause-checked : goal.returns-in_default-2-clause-checked
returns-in_default-2-clause-checked g c disk r marks shows knows over seen =
    let at = (goal.at.returns-in_default-2-clause-checked g c).After-is_out in
    let not = inside g at c.if-is_out.false in
    let none : c.args.tree.now.fault ≡ None = none_of c.args.tree.now.fault (sym c.is_some.ensures ∙ c.if-is_some.false) in
    let t = tree_in (whole disk r) c.args.tree.now.plane in
    ended_none (laws g at) disk r over seen not c.in_default.is none
    (passed (HoldsGraph r.geometry.inodes t) (IsTreeFinding r t) c.check_names-checked.result c.fault_of.result
    (c.check_names-checked.ensures.passes disk r marks shows knows over (so_far (laws g at) disk r over seen not c.in_default.is none) none)
    c.fault_of.ensures (c.in_ok-fault.was ∙ ap (λ (o : Option Fault). Ok o) c.in_default-2.is))

pub returns-clause-checked : goal.returns-clause-checked
returns-clause-checked g c disk r marks shows knows over seen =
    let at = (goal.at.returns-clause-checked g c).After-is_out in
    let not = inside g at c.if-is_out.false in
    let none : c.args.tree.now.fault ≡ None = none_of c.args.tree.now.fault (sym c.is_some.ensures ∙ c.if-is_some.false) in
    let t = tree_in (whole disk r) c.args.tree.now.plane in
    ended_names (laws g at) disk r over seen not c.in_default.is none c.in-Some-2.fault
    (found_out (HoldsGraph r.geometry.inodes t) (IsTreeFinding r t) c.in-Some-2.fault c.check_names-checked.result c.fault_of.result
    (c.check_names-checked.ensures.passes disk r marks shows knows over (so_far (laws g at) disk r over seen not c.in_default.is none) none)
    c.fault_of.ensures (c.in_ok-fault.was ∙ ap (λ (o : Option Fault). Ok o) c.in-Some-2.is)) c.add-2.new.self c.add-2.ensures
