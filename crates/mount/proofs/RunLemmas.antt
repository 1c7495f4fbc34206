-- A run of commands, one after the other.
use Rattle.std.proofs.Common.{◌≡◌, List, [], ◌∷◌, ◌++◌, refl, arith}
use Rattle.station.specs.Images.{Images}
use Rattle.station.specs.declared.station.Station.{Ghosts}
use Rattle.station.specs.Moments.{Meaning, MayLeave, LeftBetween, IsSameStation}
use Rattle.model.specs.declared.command.Command.{Command}
use Rattle.model.specs.declared.reply.Reply.{Reply}
use Rattle.model.specs.States.{State, going, failed}
use Rattle.model.specs.Runs.{IsPrefix}
use Rattle.system.specs.Images.{OpensTo}
use Rattle.system.specs.Systems as systems
use Rattle.mount.specs.Systems.{Mounted, OpensToSome, mounted, file_system_meaning, moment_of, shown_state}
use Rattle.mount.specs.Applying.{Between, IsApplied, IsAppliedAt, HasRun, ReadsCut, LeftNow, RunsAt}
use Rattle.mount.specs.declared.fs.Fs.{Fs}
use Rattle.mount.proofs.StationLemmas.{on_none, on_twice, moved}
use Rattle.mount.proofs.SpanLemmas.{spans_later, spans_push, spans_prefix, spans_failed}

module _ {S : Type 0} {G : Ghosts S} where
  -- no command so far
  pub run_none : (f : Mounted S G) → LeftNow (file_system_meaning f) f.state (λ t. t ≡ f.state) → HasRun f f []
  run_none f now = record { goes_on = on_none (file_system_meaning f); spans = (refl, now) }

  -- one command more
  run_push : (f g new : Mounted S G) (steps : List (Command × Reply)) (command : Command) (reply : Reply) → HasRun f g steps → IsSameStation (file_system_meaning g) (file_system_meaning new) → IsApplied g new command reply
      → LeftNow (file_system_meaning new) new.state (λ t. t ≡ new.state) → HasRun f new (steps ++ (command, reply) ∷ [])
  run_push f g new steps command reply run same applied now =
      let old = file_system_meaning g in
      let m = file_system_meaning new in
      let on = applied.leads.between.goes_on in
      let so_far = spans_later shown_state Between moment_of old.left_at m.left_at (λ c t. OpensTo old t c) (λ c t. OpensTo m t c) old.moment on.kept (λ c t opens. moved old m t c same.sectors opens)
      f steps g (file_system_meaning f).moment old.moment run.goes_on.later (omega arith) run.spans in
      record {
        goes_on = on_twice (file_system_meaning f) old m run.goes_on on;
        spans = spans_push shown_state Between moment_of m.left_at (λ c t. OpensTo m t c) f steps g new (command, reply) (file_system_meaning f).moment old.moment run.goes_on.later on.later so_far
            applied.leads applied.any_moment now;
      }

  -- so of a file system at a state that it served first
  pub run_goes_on : (first fs next : Fs S G) (s : State) (steps : List (Command × Reply)) (command : Command) (reply : Reply) → (so_far : RunsAt first s fs steps) → IsSameStation (systems.meaning_of fs.system) (systems.meaning_of next.system)
      → (applied : IsAppliedAt fs so_far.last next command reply) → LeftNow (systems.meaning_of next.system) applied.0 (λ t. t ≡ applied.0) → RunsAt first s next (steps ++ (command, reply) ∷ [])
  run_goes_on first fs next s steps command reply so_far same applied now = record {
    last = applied.0;
    serves = applied.1.serves;
    ran = run_push (mounted first s) (mounted fs so_far.last) (mounted next applied.0) steps command reply so_far.ran same applied.1 now;
  }

  -- a second station that reads what a cut within a run might have left opens to a prefix of it
  pub run_opens : (old new : Mounted S G) (steps : List (Command × Reply)) (other : Meaning) → old.state.mark ≡ going → HasRun old new steps → ReadsCut (file_system_meaning old) (file_system_meaning new) other
      → OpensToSome other (IsPrefix shown_state Between old steps) other.seen
  run_opens old new steps other is run reads =
      let m = file_system_meaning new in
      let there = spans_prefix shown_state Between moment_of m.left_at (λ c t. OpensTo m t c) old steps new (file_system_meaning old).moment m.moment run.spans is reads.left.0 other.seen reads.left.1 reads.left.2 reads.left.3 in
      (there.0, moved m other there.0 other.seen reads.sectors there.1, there.2)

  -- a failed system leaves no more than before
  pub run_failed : (old new : Mounted S G) (steps : List (Command × Reply)) → old.state.mark ≡ failed → HasRun old new steps → (c : Images)
      → LeftBetween (file_system_meaning new) (file_system_meaning old).moment (file_system_meaning new).moment c → MayLeave (file_system_meaning old) c
  run_failed old new steps is run c left =
      let m = file_system_meaning new in
      let start = (file_system_meaning old).moment in
      (run.goes_on.kept start c (omega arith)).0 (spans_failed shown_state Between moment_of m.left_at (λ d t. OpensTo m t d) old steps new start m.moment run.spans is left.0 c left.1 left.2 left.3)
