-- Commands one after the other.
use Rattle.std.proofs.Common.{◌≡◌, ℕ, ◌+◌, ◌*◌, ◌<◌, ◌≤◌, ◌^◌, List, [], ◌∷◌, ◌++◌, length, length-append, Option, Some, Result, Ok, Err, refl, sym, subst, arith}
use Rattle.std.specs.Prelude.{IfSome}
use Rattle.std.specs.Result.{IsErrAnd}
use Rattle.station.specs.declared.station.Station.{Ghosts}
use Rattle.station.proofs.Moments.{same_none, same_twice}
use Rattle.model.specs.declared.command.Command.{Command}
use Rattle.model.specs.declared.errno.Errno.{Errno}
use Rattle.model.specs.declared.reply.Reply.{Reply}
use Rattle.model.specs.declared.reply.Reply.TheVariants as reply
use Rattle.model.specs.States.{State}
use Rattle.system.specs.Systems.{meaning_of}
use Rattle.mount.specs.Applying.{AppliesCommand, RunsAt}
use Rattle.mount.specs.Systems.{Serves, mounted}
use Rattle.mount.specs.declared.fs.Fs.{Fs}
use Rattle.uses.specs.Using.{HasLed, KeepsNote, Steps, note_steps}

longer : (steps : Steps) (step : Command × Reply) → length (steps ++ step ∷ []) ≡ length steps + 1
longer steps step = length-append steps (step ∷ [])

fewer : (a n k : ℕ) → k ≡ n + 1 → a + 2 * k < 2 ^ 62 → a + 2 * n < 2 ^ 62
fewer a n k is lasts = omega (arith, is, lasts)

one_left : (a b n k : ℕ) → k ≡ n + 1 → b ≤ a + 2 * n → a + 2 * k < 2 ^ 62 → b + 2 ≤ 2 ^ 62
one_left a b n k is le lasts = omega (arith, is, le, lasts)

one_more : (a b c n k : ℕ) → k ≡ n + 1 → b ≤ a + 2 * n → c ≤ b + 2 → c ≤ a + 2 * k
one_more a b c n k is le more = omega (arith, is, le, more)

none : (a : ℕ) → a ≤ a + 2 * 0
none a = omega arith

module _ {S : Type 0} {G : Ghosts S} {first : Fs S G} where
  -- none so far
  pub led_none : ((s : State) → Serves (mounted first s) → RunsAt first s first []) → HasLed first first []
  led_none begins = record {
    same = same_none (meaning_of first.system);
    lasts = none first.system.log.epoch;
    ran = λ s serves lasts. begins s serves;
  }

  -- one more
  pub led_on : {mid last : Fs S G} {steps : Steps} {command : Command} {answer : Reply} → HasLed first mid steps → AppliesCommand mid last command answer → HasLed first last (steps ++ (command, answer) ∷ [])
  led_on {mid} {last} {steps} {command} {answer} led applied = record {
    same = same_twice (meaning_of first.system) (meaning_of mid.system) (meaning_of last.system) led.same applied.answers.uses.same;
    lasts = one_more first.system.log.epoch mid.system.log.epoch last.system.log.epoch (length steps) _ (longer steps (command, answer)) led.lasts applied.answers.epoch.lasts;
    ran = λ s serves lasts.
        applied.goes_on first s steps (led.ran s serves (fewer first.system.log.epoch (length steps) _ (longer steps (command, answer)) lasts))
        (one_left first.system.log.epoch mid.system.log.epoch (length steps) _ (longer steps (command, answer)) led.lasts lasts);
  }

  -- a refused one ends it
  pub refused_at : {last : Fs S G} (result : Result (List ℕ) Errno) (errno : Errno) (note : List ℕ) (fd written : ℕ) (kept : List ℕ) (before behind : Steps) (step : Command × Reply) → note_steps note fd written kept ≡ before ++ step ∷ behind
      → IsErrAnd result (λ e. e ≡ errno) → HasLed first last (before ++ (step.0, reply.Refused errno) ∷ []) → KeepsNote note first last result
  refused_at (Ok it) errno note fd written kept before behind step is told led = absurd told
  refused_at {last} (Err e) errno note fd written kept before behind step is told led = (
    before ++ (step.0, reply.Refused e) ∷ [],
    (fd, written, kept, before, behind, step, is, refl),
    subst (λ (x : Errno). HasLed first last (before ++ (step.0, reply.Refused x) ∷ [])) (sym told) led,
  )

-- a mode that was made of so many bits
pub mode_is : (made : Option ℕ) (mode bits : ℕ) → made ≡ Some mode → IfSome made (λ m. m ≡ bits) → mode ≡ bits
mode_is made mode bits is told = subst (λ (o : Option ℕ). IfSome o (λ m. m ≡ bits)) is told
