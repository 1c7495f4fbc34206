use Rattle.std.proofs.Common.{rules, ◌≡◌, ◌≢◌, [], IfOk, ap, subst}
use Rattle.layout.specs.declared.kind.Kind.TheVariants as kinds
use Rattle.paths.specs.Steps.{text_in}
use Rattle.paths.proofs.LookingUp.{fails, finds}
use Rattle.paths.proofs.Objects.{link_text, without_text}
use Rattle.paths.proofs.Looks.{looks_reads}
use Rattle.paths.proofs.lookup.text_at.Goals as goal

pub returns-in_err-load : goal.returns-in_err-load
returns-in_err-load g c = fails c.from_residual.result c.from_residual.ensures.1 c.in_err-load.ensures.looks c.load.ensures.loads c.in_err-load.ensures.damaged

pub returns-in_default : goal.returns-in_default
returns-in_default g c = finds c.in_ok-load.ensures.looks c.load.ensures.loads tt (λ disk settled v stands.
    let none : text_in (v c.args.number) ≡ [] = ap text_in (c.in_default.ensures.stands_for_none _ _ disk settled v (c.load.ensures.looks.kept disk settled v stands).volume) in
    search rules)

pub returns-then-ne : goal.returns-then-ne
returns-then-ne g c = finds c.in_ok-load.ensures.looks c.load.ensures.loads tt (λ disk settled v stands.
    let o = c.in-Some.object.now in
    let now = c.load.ensures.looks.kept disk settled v stands in
    let is_object = c.in-Some.ensures.stands _ _ disk settled v now.volume in
    let other : o.status.kind ≢ kinds.Link = search rules in
    let none = without_text disk c.load.new.inodes.geometry.inodes (settled c.args.number) o (v c.args.number) is_object other in
    search rules)

pub returns : goal.returns
returns g c = record {
  looks = looks_reads c.in_ok-load.ensures.looks c.all_bytes.ensures.reads;
  loads = c.load.ensures.loads;
  within = search rules;
  found = λ disk settled v stands.
      let o = c.in-Some.object.now in
      let now = c.load.ensures.looks.kept disk settled v stands in
      let is_object = c.in-Some.ensures.stands _ _ disk settled v now.volume in
      let kind : o.status.kind ≡ kinds.Link = search rules in
      subst (λ text. IfOk c.all_bytes.result (λ t. t.items ≡ text)) (link_text disk c.load.new.inodes.geometry.inodes (settled c.args.number) o (v c.args.number) is_object kind)
      (c.all_bytes.ensures.bytes disk now.shows);
  damaged = λ disk settled v stands is.
      let o = c.in-Some.object.now in
      let now = c.load.ensures.looks.kept disk settled v stands in
      let is_object = c.in-Some.ensures.stands _ _ disk settled v now.volume in
      c.all_bytes.ensures.damaged disk now.shows is
      (λ i. c.objects_stand_in_their_grammar.ensures _ _ disk settled c.load.new.inodes v c.args.number i o (v c.args.number) now.volume is_object tt);
}
