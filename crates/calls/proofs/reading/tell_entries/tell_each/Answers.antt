use Rattle.std.proofs.Common.{◌∙◌, ◌++◌, ◌∷◌, [], ℕ, IsSome, List, length, sym, subst, rules}
use Rattle.std.specs.List.{AllZip}
use Rattle.std.proofs.lemmas.Iterator.Adapters.{YieldsList-from_vec}
use Rattle.std.proofs.lemmas.Iterator.Consumers.{YieldsList-turn, YieldsList-end}
use Rattle.std.proofs.lemmas.List.{map-id}
use Rattle.std.proofs.lemmas.List.Elements.{All-contains}
use Rattle.layout.specs.Limits.{Sizes}
use Rattle.calls.specs.Entries.{IsEntryOf}
use Rattle.calls.specs.declared.reading.part.ToldName.{ToldName}
use Rattle.paths.specs.Numbers.{IsInodeNumber}
use Rattle.paths.proofs.Looks.{looks_more, looks_ok}
use Rattle.records.proofs.StandLaws.{no_look}
use Rattle.calls.proofs.EntriesSteps.{starved, starved_sound, tells_failed, zip_push}
use Rattle.calls.proofs.SeeSteps.{tells_all, tells_none}
use Rattle.calls.proofs.reading.tell_entries.tell_each.Goals as goal

pub loop-name-init : goal.loop-name-init
loop-name-init g c = record {
  looks = no_look;
  each = λ disk settled v stands. subst (AllZip (IsEntryOf v) []) (sym c.new-entries.ensures.items) tt;
}

pub tell-requires : goal.tell-requires
tell-requires g c =
    let n = c.in-Some.name in
    let told = c.args.told.items in
    let turn = YieldsList-turn (YieldsList-from_vec {s = c.into_iter-name-iterator.result} told (search rules) (search rules)) c.loop-name.yielded c.loop-name.name-iterator c.loop-name.yielded_by c.next.result c.next.new.self n c.in-Some.is c.next.ensures.steps in
    subst (λ (z : Sizes). IsInodeNumber z.inodes n.numbered.number) (sym c.loop-name.invariant.looks.geometry)
    (All-contains (λ (t : ToldName). IsInodeNumber c.args.inodes.now.geometry.inodes t.numbered.number) told n c.requires (length c.loop-name.yielded, turn.0, sym turn.1))

pub returns-in_err-entry : goal.returns-in_err-entry
returns-in_err-entry g c =
    let n = c.in-Some.name in
    let told = c.args.told.items in
    let turn = YieldsList-turn (YieldsList-from_vec {s = c.into_iter-name-iterator.result} told (search rules) (search rules)) c.loop-name.yielded c.loop-name.name-iterator c.loop-name.yielded_by c.next.result c.next.new.self n c.in-Some.is c.next.ensures.steps in
    tells_failed _ c.from_residual.result c.from_residual.ensures.1 c.loop-name.invariant.looks c.in_err-entry.ensures
    (λ errno disk settled v stands none all. none (All-contains (λ (t : ToldName). IsSome (v t.numbered.number)) told n all (length c.loop-name.yielded, turn.0, sym turn.1)))

pub returns-in_err-push : goal.returns-in_err-push
returns-in_err-push g c =
    tells_none {X = ℕ} c.from_residual-in_err-push.result c.from_residual-in_err-push.ensures.1 (starved (looks_more c.loop-name.invariant.looks c.in_ok-entry.ensures.looks)) starved_sound

pub loop-name-preserved : goal.loop-name-preserved
loop-name-preserved g c =
    let so_far = c.loop-name.invariant in
    let n = c.in-Some.name in
    let entry = c.in_ok-entry.entry in
    record {
      looks = looks_ok (looks_more so_far.looks c.in_ok-entry.ensures.looks);
      each = λ disk settled v stands.
          subst (AllZip (IsEntryOf v) (c.loop-name.yielded ++ n ∷ [])) (sym c.in_ok-push.ensures.items)
          (zip_push (IsEntryOf v) c.loop-name.yielded c.loop-name.entries.items n entry (so_far.each disk settled v stands) (c.in_ok-entry.ensures.tells disk settled v (so_far.looks.kept disk settled v stands)));
    }

pub returns : goal.returns
returns g c =
    let told = c.args.told.items in
    let end = YieldsList-end (YieldsList-from_vec {s = c.into_iter-name-iterator.result} told (search rules) (search rules)) c.loop-name.yielded c.loop-name.name-iterator c.loop-name.yielded_by c.next.result c.next.new.self c.in-None.is c.next.ensures.steps in
    tells_all c.loop-name.invariant.looks (λ disk settled v stands.
    subst (λ (l : List ToldName). AllZip (IsEntryOf v) l c.loop-name.entries.items) (sym (map-id c.loop-name.yielded) ∙ end.0) (c.loop-name.invariant.each disk settled v stands))
