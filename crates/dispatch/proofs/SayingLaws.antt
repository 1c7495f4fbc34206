-- A call that says something of the calls to come, on a system that shows a state.
use Rattle.std.proofs.Common.{◌≡◌, ◌∙◌, ◌≤◌, inl, inr, arith, ℕ, ℤ, Bool, true, false, [], ◌∷◌, not, Some, None, refl, ap, sym, subst}
use Rattle.std.specs.Prelude.{nat_lt}
use Rattle.std.proofs.lemmas.Bool.{cases_Bool, ltb-false, ltb-true}
use Rattle.layout.specs.StateLimits.{limits_of}
use Rattle.station.specs.declared.station.Station.{Ghosts}
use Rattle.model.specs.Paths.{first_refusal}
use Rattle.model.specs.Room.{Room, nothing}
use Rattle.model.specs.Sessions.{as_owner, at_time}
use Rattle.model.specs.States.{State, with_session}
use Rattle.model.specs.Steps.{Step, WouldStep, says}
use Rattle.model.specs.declared.command.Command.{Command}
use Rattle.model.specs.declared.command.Command.TheVariants as command
use Rattle.model.specs.declared.errno.Errno.TheVariants.{EINVAL, ENOTSUP}
use Rattle.model.specs.declared.limits.TheConstants.{MOST_NANOSECONDS}
use Rattle.model.specs.declared.reply.Reply.{Reply}
use Rattle.model.specs.declared.reply.Reply.TheVariants.{Done, Refused}
use Rattle.model.specs.declared.session.Session.{Session}
use Rattle.model.specs.declared.time.Time.{Time}
use Rattle.dispatch.specs.Answering.{IsAnswered}
use Rattle.dispatch.specs.Showing.{ShowsNext, ShowsState}
use Rattle.dispatch.proofs.ShowingLaws.{stands_same, still_shown}
use Rattle.descriptors.specs.Fits.{FitsVolume}
use Rattle.descriptors.specs.Tables.{table_of}
use Rattle.descriptors.specs.declared.table.Descriptors.{Descriptors}
use Rattle.system.specs.Systems.{state_with}
use Rattle.system.specs.declared.system.System.{System}

module _ (s : State) (seconds : ℤ) (nanoseconds : ℕ) where
  abbrev said : Time
  said = record { seconds = seconds; nanoseconds = nanoseconds }

  -- what `at` comes to by its two tests
  abbrev by_tests : Bool → Bool → Step
  by_tests has_none too_many = elim (first_refusal ((has_none, ENOTSUP) ∷ (too_many, EINVAL) ∷ [])) [
    | Some errno ↦ says s (Refused errno)
    | None ↦ λ reply new need. (reply ≡ Done) × (new ≡ with_session (at_time said s.session) s) × (need ≡ nothing)
  ]

  -- the file system keeps no times
  pub no_times : (room : Room) → s.limits.has_attributes ≡ false → WouldStep room s (command.At seconds nanoseconds) (Refused ENOTSUP) s nothing
  no_times room none =
      subst (λ (b : Bool). by_tests (not b) (nat_lt MOST_NANOSECONDS nanoseconds) (Refused ENOTSUP) s nothing) (sym none) (refl, refl, refl)

  -- so many nanoseconds aren't below a second
  pub too_late : (room : Room) → s.limits.has_attributes ≡ true → nat_lt MOST_NANOSECONDS nanoseconds ≡ true → WouldStep room s (command.At seconds nanoseconds) (Refused EINVAL) s nothing
  too_late room has many =
      subst (λ (b : Bool). by_tests (not b) (nat_lt MOST_NANOSECONDS nanoseconds) (Refused EINVAL) s nothing) (sym has)
      (subst (λ (b : Bool). by_tests false b (Refused EINVAL) s nothing) (sym many) (refl, refl, refl))

  -- it is done
  pub at_done : (room : Room) → s.limits.has_attributes ≡ true → nat_lt MOST_NANOSECONDS nanoseconds ≡ false
      → WouldStep room s (command.At seconds nanoseconds) Done (with_session (at_time said s.session) s) nothing
  at_done room has few =
      subst (λ (b : Bool). by_tests (not b) (nat_lt MOST_NANOSECONDS nanoseconds) Done (with_session (at_time said s.session) s) nothing) (sym has)
      (subst (λ (b : Bool). by_tests false b Done (with_session (at_time said s.session) s) nothing) (sym few) (refl, refl, refl))

module _ (s : State) (owner group : ℕ) where
  -- what `as` comes to by its test
  abbrev by_test : Bool → Step
  by_test has_none = elim (first_refusal ((has_none, ENOTSUP) ∷ [])) [
    | Some errno ↦ says s (Refused errno)
    | None ↦ λ reply new need. (reply ≡ Done) × (new ≡ with_session (as_owner owner group s.session) s) × (need ≡ nothing)
  ]

  -- the file system keeps no owners
  pub no_owners : (room : Room) → s.limits.has_attributes ≡ false → WouldStep room s (command.As owner group) (Refused ENOTSUP) s nothing
  no_owners room none = subst (λ (b : Bool). by_test (not b) (Refused ENOTSUP) s nothing) (sym none) (refl, refl, refl)

  -- it is done
  pub as_done : (room : Room) → s.limits.has_attributes ≡ true → WouldStep room s (command.As owner group) Done (with_session (as_owner owner group s.session) s) nothing
  as_done room has = subst (λ (b : Bool). by_test (not b) Done (with_session (as_owner owner group s.session) s) nothing) (sym has) (refl, refl, refl)

-- the limits of the state that a system shows are those of its image
pub has_shown : {S : Type 0} {G : Ghosts S} (f : System S G) {s : State} → ShowsState f s → (has : Bool) → (limits_of f.root.geometry).has_attributes ≡ has → s.limits.has_attributes ≡ has
has_shown f shown has is = subst (λ (u : State). u.limits.has_attributes ≡ has) (sym shown.state) is

-- what its negation is, a test isn't
pub not_told : (b c : Bool) → not b ≡ c → b ≡ not c
not_told true c e = ap not e
not_told false c e = ap not e

-- whether so many nanoseconds are below a second
pub few_told : (nanoseconds : ℕ) → nanoseconds ≤ MOST_NANOSECONDS → nat_lt MOST_NANOSECONDS nanoseconds ≡ false
few_told nanoseconds few = elim (cases_Bool (nat_lt MOST_NANOSECONDS nanoseconds)) [
  | inl more ↦ absurd (omega (arith, ltb-true MOST_NANOSECONDS nanoseconds more))
  | inr none ↦ none
]

pub many_told : (nanoseconds : ℕ) → ¬ (nanoseconds ≤ MOST_NANOSECONDS) → nat_lt MOST_NANOSECONDS nanoseconds ≡ true
many_told nanoseconds many = elim (cases_Bool (nat_lt MOST_NANOSECONDS nanoseconds)) [
  | inl more ↦ more
  | inr none ↦ absurd (many (ltb-false MOST_NANOSECONDS nanoseconds none))
]

module _ {S : Type 0} {G : Ghosts S} (f new : System S G) {s : State} (shown : ShowsState f s) (call : Command) where
  -- refused, it leaves all as it is
  pub saying_refused : (reply : Reply) → new.session ≡ f.session → new.inodes ≡ f.inodes → new.files ≡ f.files → ((room : Room) → WouldStep room s call reply s nothing) → IsAnswered f new shown call reply
  saying_refused reply same inodes files told = record {
    next = s;
    step = λ room stored. told room;
    shows = still_shown f new shown (stands_same f shown inodes) same (ap table_of files) (λ v fits. subst (λ (d : Descriptors). FitsVolume d v) (sym files) fits);
  }

  -- done, it leaves another session
  pub is_said : (say : Session → Session) → new.session ≡ say f.session → new.inodes ≡ f.inodes → new.files ≡ f.files
      → ((room : Room) → WouldStep room s call Done (with_session (say s.session) s) nothing) → IsAnswered f new shown call Done
  is_said say same inodes files told =
      let stands = stands_same f shown inodes in record {
        next = with_session (say s.session) s;
        step = λ room stored. told room;
        shows = record {
          running = shown.running;
          replays = λ last extends. extends;
          memory = stands.0;
          stored = stands.1;
          mounted = shown.mounted;
          opened = shown.opened ∙ ap table_of (sym files);
          fits = subst (λ (d : Descriptors). FitsVolume d shown.running) (sym files) shown.fits;
          state = ap (λ (u : State). with_session (say u.session) u) shown.state
              ∙ ap (λ (x : Session). state_with (limits_of f.root.geometry) x shown.running s.tree.descriptors shown.snapshots) (sym same);
        };
      }
