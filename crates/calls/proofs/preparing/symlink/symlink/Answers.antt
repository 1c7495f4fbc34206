use Rattle.std.proofs.Common.{◌≡◌, ◌∙◌, ℕ, List, None, ap, sym, subst}
use Rattle.model.specs.declared.limits.Limits.{Limits}
use Rattle.layout.specs.StateLimits.{limits_of}
use Rattle.layout.specs.declared.limits.TheConstants.{PATH_BYTES}
use Rattle.model.specs.declared.limits.TheConstants.{LINK_MODE}
use Rattle.model.specs.Changes.{with_made}
use Rattle.model.specs.Changing.{creates, link_text_tests}
use Rattle.model.specs.Paths.{IsLinkText, first_refusal}
use Rattle.model.specs.Records.{Made, symbolic_link}
use Rattle.model.specs.Volumes.{tree_of}
use Rattle.records.proofs.StandLaws.{no_look}
use Rattle.calls.specs.Changing.{Comes}
use Rattle.calls.proofs.LimitLaws.{by_limits, link_text_within}
use Rattle.calls.proofs.PrepareSteps.{leaves, refuses}
use Rattle.calls.proofs.RefusalLaws.{link_text_own}
use Rattle.calls.proofs.SymlinkLaws.{link_text_refused, symlink_comes}
use Rattle.calls.proofs.preparing.symlink.symlink.Goals as goal

pub returns-in-Some : goal.returns-in-Some
returns-in-Some g c =
    let is = sym (by_limits (λ (l : Limits). link_text_tests l c.args.text.now) c.limits.ensures c.refusal_of_link_text.ensures) ∙ c.in-Some.is in
    refuses no_look (link_text_own (limits_of c.args.inodes.now.geometry) c.args.text.now c.in-Some.errno is)
    (λ disk settled v table stands volume mounted. link_text_refused (limits_of c.args.inodes.now.geometry) c.args.now v table c.args.text.now c.args.path.now c.args.permissions c.in-Some.errno is)

pub unreachable-requires : goal.unreachable-requires
unreachable-requires g c =
    let passed = sym (by_limits (λ (l : Limits). link_text_tests l c.args.text.now) c.limits.ensures c.refusal_of_link_text.ensures) ∙ c.in_default.is in
    c.in_default-new.ensures.none (subst (IsLinkText PATH_BYTES) (sym c.in_ok-bytes.ensures.items) (link_text_within (limits_of c.args.inodes.now.geometry) c.args.text.now passed))

pub returns : goal.returns
returns g c = leaves c.make.ensures (λ disk settled v table stands volume mounted r told.
    let limits = limits_of c.args.inodes.now.geometry in
    let t = tree_of v table in
    let text = c.args.text.now in
    let path = c.args.path.now in
    let permissions = c.args.permissions in
    let passed : first_refusal (link_text_tests (limits_of c.args.inodes.now.geometry) text) ≡ None = sym (by_limits (λ (l : Limits). link_text_tests l c.args.text.now) c.limits.ensures c.refusal_of_link_text.ensures) ∙ c.in_default.is in
    let same : c.in-Some-new.text.bytes.items ≡ text = c.in-Some-new.ensures.some ∙ c.in_ok-bytes.ensures.items in
    let with_mode = λ (mode : ℕ) (x : List ℕ). symbolic_link (record { mode = mode; owner = permissions.owner; group = permissions.group }) x in
    let is : with_mode LINK_MODE c.in-Some-new.text.bytes.items ≡ symbolic_link permissions text =
    ap (with_mode LINK_MODE) same ∙ ap (λ (mode : ℕ). with_mode mode text) (sym c.requires.mode) in
    symlink_comes limits c.args.now v table text path permissions passed r (subst (λ (made : Made). Comes (creates limits c.args.now t path (with_made made)) limits v table r) is told))
