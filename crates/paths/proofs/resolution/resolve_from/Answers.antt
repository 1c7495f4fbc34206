use Rattle.std.proofs.Common.{◌≡◌, ◌∙◌, false, inl, inr, refl, sym, ap, subst, rules}
use Rattle.std.proofs.lemmas.Bool.{false≢true}
use Rattle.layout.specs.StateLimits.{limits_of}
use Rattle.model.specs.Finding.{find_within, trail_from}
use Rattle.model.specs.Paths.{is_empty}
use Rattle.paths.specs.Places.{IsPlaceWithin}
use Rattle.paths.specs.Starts.{IsTargetWithin}
use Rattle.paths.specs.Steps.{placed_in}
use Rattle.paths.specs.Targets.{target_alone}
use Rattle.paths.specs.declared.lookup.Found.TheVariants as found
use Rattle.paths.proofs.FromNumbers.{AreNoneBehind, IsToldFrom, alone_behind, alone_within, outside, resolves_from, told_alone, told_directory, told_no_object, told_nothing}
use Rattle.paths.proofs.LookingUp.{at_end, looked_into, looked_up, not_looked, then_fails, then_finds}
use Rattle.paths.proofs.resolution.resolve_from.Goals.{then-number-lt-ROOT_NUMBER-via-then-number-lt-ROOT_NUMBER, then-number-lt-ROOT_NUMBER-via-else-number-lt-ROOT_NUMBER+then-number-inodes}
use Rattle.paths.proofs.resolution.resolve_from.Goals as goal

pub returns-then-number-lt-ROOT_NUMBER : goal.returns-then-number-lt-ROOT_NUMBER
returns-then-number-lt-ROOT_NUMBER g c = resolves_from (at_end not_looked (refl, λ k is. absurd cc) (λ disk settled v stands.
    told_nothing c.volumes_tell_numbers.ensures (limits_of c.args.inodes.now.geometry) v c.args.follow c.args.names c.args.number (λ volume.
    outside (limits_of c.args.inodes.now.geometry) c.args.number v volume
    (elim c.then-number-lt-ROOT_NUMBER.branch [
      | then-number-lt-ROOT_NUMBER-via-then-number-lt-ROOT_NUMBER w ↦ inl w.if-number-lt-ROOT_NUMBER.true
      | then-number-lt-ROOT_NUMBER-via-else-number-lt-ROOT_NUMBER+then-number-inodes w ↦ inr (search rules, search rules)
    ]))))

pub returns-in_err-found : goal.returns-in_err-found
returns-in_err-found g c = resolves_from (then_fails c.from_residual.result c.from_residual.ensures.1 not_looked (looked_into c.in_err-found.ensures))

pub returns-in_err-place-in-Directory : goal.returns-in_err-place-in-Directory
returns-in_err-place-in-Directory g c = resolves_from
    (then_fails c.from_residual-in_err-place-in-Directory.result c.from_residual-in_err-place-in-Directory.ensures.1 (looked_up not_looked (looked_into c.in_ok-found.ensures)) c.in_err-place-in-Directory.ensures)

pub returns-in_ok-place-in-Directory : goal.returns-in_ok-place-in-Directory
returns-in_ok-place-in-Directory g c =
    let looked = looked_up not_looked (looked_into c.in_ok-found.ensures) in
    let walk = c.in_ok-place-in-Directory.ensures in
    resolves_from (then_finds looked walk (subst (λ z. IsPlaceWithin z.inodes c.in_ok-place-in-Directory.place) looked.geometry walk.within, λ k is. absurd cc) (λ disk settled v stands.
    told_directory c.volumes_tell_numbers.ensures (limits_of c.args.inodes.now.geometry) v c.args.follow c.args.names c.args.number c.resolution_is_from_numbers.ensures c.in_ok-place-in-Directory.place
    (subst (λ k. placed_in (v k) ≡ found.Directory) c.new-start.ensures (sym (c.in_ok-found.ensures.found disk settled v stands) ∙ c.in-Directory.is))
    (walk.found disk settled v (looked.kept disk settled v stands) ∙ ap (λ k. find_within 0 v c.args.follow (trail_from k) c.args.names) c.new-start.ensures)))

pub returns-in-Nothing : goal.returns-in-Nothing
returns-in-Nothing g c = resolves_from (then_finds not_looked (looked_into c.in_ok-found.ensures) (refl, λ k is. absurd cc) (λ disk settled v stands.
    told_no_object c.volumes_tell_numbers.ensures (limits_of c.args.inodes.now.geometry) v c.args.follow c.args.names c.args.number
    (subst (λ k. placed_in (v k) ≡ found.Nothing) c.new-start.ensures (sym (c.in_ok-found.ensures.found disk settled v stands) ∙ c.in-Nothing.is))))

pub returns-in-File : goal.returns-in-File
returns-in-File g c =
    let inodes = c.args.inodes.now.geometry.inodes in
    let limits = limits_of c.args.inodes.now.geometry in
    let names = c.args.names in
    resolves_from (then_finds not_looked (looked_into c.in_ok-found.ensures)
    (subst (λ x. IsTargetWithin inodes x × AreNoneBehind names x) (sym c.target_alone.ensures)
    (alone_within inodes c.new-start.result (is_empty names) false (search rules, search rules), alone_behind c.new-start.result names (is_empty names) false refl)) (λ disk settled v stands.
    subst (IsToldFrom limits c.args.follow names c.args.number v) (sym (c.target_alone.ensures ∙ ap (λ k. target_alone k (is_empty names) false) c.new-start.ensures))
    (told_alone c.volumes_tell_numbers.ensures limits v c.args.follow names c.args.number found.File (λ e. cc) (λ e. cc)
    (subst (λ k. placed_in (v k) ≡ found.File) c.new-start.ensures (sym (c.in_ok-found.ensures.found disk settled v stands) ∙ c.in-File.is))
    false (λ e. absurd cc) (λ e f g. cc))))

pub returns-in-Link : goal.returns-in-Link
returns-in-Link g c =
    let inodes = c.args.inodes.now.geometry.inodes in
    let limits = limits_of c.args.inodes.now.geometry in
    let names = c.args.names in
    resolves_from (then_finds not_looked (looked_into c.in_ok-found.ensures)
    (subst (λ x. IsTargetWithin inodes x × AreNoneBehind names x) (sym c.target_alone-in-Link.ensures)
    (alone_within inodes c.new-start.result (is_empty names) c.args.follow (search rules, search rules), alone_behind c.new-start.result names (is_empty names) c.args.follow refl)) (λ disk settled v stands.
    subst (IsToldFrom limits c.args.follow names c.args.number v) (sym (c.target_alone-in-Link.ensures ∙ ap (λ k. target_alone k (is_empty names) c.args.follow) c.new-start.ensures))
    (told_alone c.volumes_tell_numbers.ensures limits v c.args.follow names c.args.number found.Link (λ e. cc) (λ e. cc)
    (subst (λ k. placed_in (v k) ≡ found.Link) c.new-start.ensures (sym (c.in_ok-found.ensures.found disk settled v stands) ∙ c.in-Link.is))
    c.args.follow (λ e. (e, refl)) (λ e f g. absurd (false≢true (sym e ∙ f))))))
