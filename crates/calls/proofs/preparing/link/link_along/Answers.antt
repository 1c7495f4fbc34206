use Rattle.std.proofs.Common.{◌∙◌, [], refl, sym}
use Rattle.layout.specs.StateLimits.{limits_of}
use Rattle.model.specs.Paths.{new_text_tests, text_tests}
use Rattle.model.proofs.LeadLemmas.{passed_both}
use Rattle.paths.proofs.Looks.{looks_more}
use Rattle.calls.proofs.LinkLaws.{link_no_file, link_nowhere}
use Rattle.calls.proofs.PrepareSteps.{follows, passes, refuses, stops_later}
use Rattle.calls.proofs.ReachLaws.{level_then}
use Rattle.calls.proofs.TruncateLaws.{found_other}
use Rattle.calls.proofs.preparing.link.link_along.Goals as goal

pub find_object-requires-clause-level : goal.find_object-requires-clause-level
find_object-requires-clause-level g c = level_then (limits_of c.args.inodes.now.geometry) [] c.args.old.now (passed_both (text_tests (limits_of c.args.inodes.now.geometry) c.args.old.now) (new_text_tests (limits_of c.args.inodes.now.geometry) c.args.path.now) c.requires.passed).0

pub returns-in_err-number : goal.returns-in_err-number
returns-in_err-number g c = passes _ c.from_residual.result c.from_residual.ensures.1 c.in_err-number.ensures
    (λ disk settled v table stands volume mounted errno.
    let limits = limits_of c.args.inodes.now.geometry in
    link_nowhere limits c.args.now v table volume mounted (c.volumes_are_trees.ensures limits v table volume mounted) c.args.old.now c.args.path.now c.requires.passed errno)

pub returns-in_err-found : goal.returns-in_err-found
returns-in_err-found g c =
    stops_later c.from_residual-in_err-found.result c.from_residual-in_err-found.ensures.1 c.in_ok-number.ensures.looks c.in_err-found.ensures.looks (λ disk settled v stands. c.in_err-found.ensures.damaged disk settled v stands)

pub returns-in-File : goal.returns-in-File
returns-in-File g c = follows (looks_more c.in_ok-number.ensures.looks c.in_ok-found.ensures.looks) c.link_file.ensures (λ disk settled v table stands volume mounted r links.
    links (sym (c.in_ok-found.ensures.found disk settled v (c.find_object.ensures.looks.kept disk settled v stands)) ∙ c.in-File.is)
    (c.in_ok-number.ensures.leads disk settled v table stands volume))

pub returns-in_default : goal.returns-in_default
returns-in_default g c = refuses (looks_more c.in_ok-number.ensures.looks c.in_ok-found.ensures.looks) refl (λ disk settled v table stands volume mounted.
    let limits = limits_of c.args.inodes.now.geometry in
    let old = c.args.old.now in
    let n = c.in_ok-number.number in
    let found = c.in_ok-found.ensures.found disk settled v (c.find_object.ensures.looks.kept disk settled v stands) in
    link_no_file limits c.args.now v table volume mounted (c.volumes_are_trees.ensures limits v table volume mounted) old c.args.path.now c.requires.passed n
    (c.in_ok-number.ensures.leads disk settled v table stands volume) (found_other (v n) (λ is. c.in_default.not-File (found ∙ is))))
