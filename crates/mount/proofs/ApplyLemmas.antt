-- What applying a command comes to, by the way that it is answered.
use Rattle.std.proofs.Common.{◌≡◌, ◌≤◌, arith, ◌⊎◌, inl, inr, ℕ, Bool, true, false, List, refl, sym, subst, ◌∙◌}
use Rattle.std.specs.Prelude.{IsTrue, IsFalse, MatchBool, ◌↔◌}
use Rattle.std.proofs.lemmas.Bool.{false≢true}
use Rattle.layout.specs.StateLimits.{costs_of}
use Rattle.layout.specs.declared.trees.Layout.TheVariants.{Plain}
use Rattle.station.specs.Images.{Images}
use Rattle.station.specs.Moments.{Meaning, EachCut, IsSameStation, LeavesOnly, MayGrow}
use Rattle.station.proofs.Moments.{grown_later, weaker}
use Rattle.station.specs.declared.station.Station.{Ghosts}
use Rattle.model.specs.declared.session.Session.{Session}
use Rattle.model.specs.declared.limits.Limits.{Limits}
use Rattle.model.specs.Paths.{Name}
use Rattle.model.specs.Trees.{Tree}
use Rattle.model.specs.declared.errno.Errno.TheVariants.{EIO, FAILED}
use Rattle.model.specs.declared.reply.Reply.{Reply}
use Rattle.model.specs.declared.reply.Reply.TheVariants.{Refused}
use Rattle.model.specs.declared.command.Command.{Command}
use Rattle.model.specs.States.{State, Mark, going, failed, as_failed}
use Rattle.model.specs.Room.{Room}
use Rattle.model.specs.Circumstances.{Circumstances, CoversWhereOk, IsSure, IsDone, IsAnswered, IsExcused, Allowed}
use Rattle.model.specs.Runs.{IsWithin, MayStand, MayRemain}
use Rattle.system.specs.Images.{OpensTo}
use Rattle.mount.specs.Applying.{Between, TimeGoesOn, HasRoomAtPoint, IsApplied, Stays, LeftNow, TellsOfFault}
use Rattle.mount.specs.Systems.{Mounted, OpensToSome, mounted, file_system_meaning, mark_of, Serves, LeavesState, IsCutShort}
use Rattle.mount.specs.declared.fs.Fs.{Fs}
use Rattle.mount.proofs.SpanLemmas.{cases_mark, stands_before, stands_going, stands_failed, leaves_failed}
use Rattle.station.proofs.Moments.{same_moment}
use Rattle.mount.proofs.StationLemmas.{on_none, on_twice, moved, left_within, left_now, time_on, at_last, left_after}

-- the flag of a system that failed and the mark of its state
pub is_going : (flag : Bool) → IsFalse flag → mark_of flag ≡ going
is_going false runs = refl
is_going true runs = absurd (false≢true (sym runs))

pub is_failed : (flag : Bool) → IsTrue flag → mark_of flag ≡ failed
is_failed true stopped = refl
is_failed false stopped = absurd (false≢true stopped)

pub not_both : (m : Mark) {X : Type 0} → m ≡ going → m ≡ failed → X
not_both m is stopped = let e : going ≡ failed = sym is ∙ stopped in cc

-- ---- a read that failed besides takes nothing from what a command may give

abbrev unread : Circumstances → Circumstances
unread c = record c { read_failed = true }

still_excused : (c : Circumstances) (s : State) (command : Command) (reply : Reply) → IsExcused c s command reply → IsExcused (unread c) s command reply
still_excused c s command (Refused EIO) is = refl
still_excused c s command reply is = is

still_answered : (c : Circumstances) (s : State) (command : Command) (reply : Reply) (t : State) → IsAnswered c s command reply t → IsAnswered (unread c) s command reply t
still_answered c s command reply t =
    let broken = (reply ≡ Refused EIO) × (t ≡ as_failed s) in
    let Whole = λ (d : Circumstances). (IsDone d s command reply t × CoversWhereOk d command reply) ⊎ (IsExcused d s command reply × (t ≡ s)) in
    elim c.write_failed as (λ b. MatchBool b broken (Whole c) → MatchBool b broken (Whole (unread c))) [
      | true ↦ λ is. is
      | false ↦ λ is. elim is [ inl done ↦ inl done | inr excused ↦ inr (still_excused c s command reply excused.0, excused.1) ]
    ]

-- ---- what a command may give, by the mark of the state before it

module _ (command : Command) (limits : Limits) (tree : Tree) (snapshots : List (Name × Tree)) (said : Session) where
  abbrev marked : Mark → State
  marked mark = record { limits = limits; tree = tree; snapshots = snapshots; mark = mark; session = said }

  refused_failed : (c : Circumstances) (mark : Mark) → mark ≡ failed → Allowed c (marked mark) command (Refused FAILED) (marked mark)
  refused_failed c failed is = (refl, refl)
  refused_failed c going is = cc

  unread_going : (c : Circumstances) (mark : Mark) (reply : Reply) (t : State) → Allowed c (marked mark) command reply t → Allowed (unread c) (marked mark) command reply t
  unread_going c going reply t (inl sure) = inl sure
  unread_going c going reply t (inr answer) = inr (answer.0, still_answered c (marked going) command reply t answer.1)
  unread_going c failed reply t is = is

  answered_going : (c : Circumstances) (mark : Mark) (reply : Reply) (t : State) → mark ≡ going → ¬ IsSure (marked mark) command → IsAnswered c (marked mark) command reply t → Allowed c (marked mark) command reply t
  answered_going c going reply t is not_sure answer = inr (not_sure, answer)
  answered_going c failed reply t is not_sure answer = cc

  surely_going : (c : Circumstances) (mark : Mark) (reply : Reply) (t : State) → mark ≡ going → IsSure (marked mark) command → IsFalse c.write_failed → IsDone c (marked mark) command reply t → Allowed c (marked mark) command reply t
  surely_going c going reply t is sure no_write done = inl (sure, no_write, done)
  surely_going c failed reply t is sure no_write done = cc

pub allowed_surely : (s : State) (command : Command) (c : Circumstances) (reply : Reply) (t : State) → s.mark ≡ going → IsSure s command → IsFalse c.write_failed → IsDone c s command reply t → Allowed c s command reply t
allowed_surely s command c reply t is = surely_going command s.limits s.tree s.snapshots s.session c s.mark reply t is

pub allowed_by : (s : State) (command : Command) (c : Circumstances) (reply : Reply) (t : State) → s.mark ≡ going → ¬ IsSure s command → IsAnswered c s command reply t → Allowed c s command reply t
allowed_by s command c reply t is = answered_going command s.limits s.tree s.snapshots s.session c s.mark reply t is

-- so it stands behind reads of which some may have failed
pub after_reads : (a b n : ℕ) (s : State) (command : Command) (c : Circumstances) (reply : Reply) (t : State) → MayGrow a b → MayGrow b n → TellsOfFault c.read_failed b n → Allowed c s command reply t
    → (read : Bool) × TellsOfFault read a n × Allowed (record c { read_failed = read }) s command reply t
after_reads a b n s command c reply t (inl same) later told allowed = (c.read_failed, subst (λ (k : ℕ). TellsOfFault c.read_failed k n) same told, allowed)
after_reads a b n s command c reply t (inr grown) later told allowed =
    (true, grown_later a b n grown later, unread_going command s.limits s.tree s.snapshots s.session c s.mark reply t allowed)

-- the state at the answer
module _ (s : State) (command : Command) (new t : State) where
  abbrev remains_by : Mark → Mark → Type 0
  remains_by m n = elim m [ failed ↦ ⊥ | going ↦ elim n [ going ↦ t ≡ new | failed ↦ IsWithin s command t ] ]

  remains_going : s.mark ≡ going → new.mark ≡ going → MayRemain s command new t ↔ (t ≡ new)
  remains_going is after = (
    λ stands. subst (λ (m : Mark). remains_by m going) is (subst (λ (n : Mark). remains_by s.mark n) after stands),
    λ one. subst (λ (n : Mark). remains_by s.mark n) (sym after) (subst (λ (m : Mark). remains_by m going) (sym is) one),
  )

  remains_failed : s.mark ≡ going → new.mark ≡ failed → MayRemain s command new t ↔ IsWithin s command t
  remains_failed is after = (
    λ stands. subst (λ (m : Mark). remains_by m failed) is (subst (λ (n : Mark). remains_by s.mark n) after stands),
    λ one. subst (λ (n : Mark). remains_by s.mark n) (sym after) (subst (λ (m : Mark). remains_by m failed) (sym is) one),
  )

-- no room is reckoned
abbrev pub no_room : Room
no_room = record { costs = costs_of Plain 0; blocks = 0; free = 0; pledged = 0; is_covered = false; orphans_of = λ name. 0; stored = λ n k. true }

-- what came in the way of a command, but for the history of the station
pub record Came {S : Type 0} {G : Ghosts S} (old : Mounted S G) (command : Command) (new : Mounted S G) (c : Circumstances) : Type 0 where
  pub reads : TellsOfFault c.read_failed (file_system_meaning old).failed_reads (file_system_meaning new).failed_reads
  pub writes : TellsOfFault c.write_failed (file_system_meaning old).failed_writes (file_system_meaning new).failed_writes
  pub room : new.state.mark ≡ going → HasRoomAtPoint new.fs.system new.state c.room

abbrev pub between : {S : Type 0} {G : Ghosts S} (old : Mounted S G) (command : Command) (new : Mounted S G) (c : Circumstances) → TimeGoesOn (file_system_meaning old) (file_system_meaning new) → Came old command new c
    → Between old command new c
between old command new c goes_on came = record { goes_on = goes_on; reads = came.reads; writes = came.writes; room = came.room }

module _ {S : Type 0} {G : Ghosts S} where
  -- a command that led to a going state
  module _ (old new : Fs S G) (s t : State) (command : Command) (is : s.mark ≡ going) (still : t.mark ≡ going) (same : IsSameStation (file_system_meaning (mounted old s)) (file_system_meaning (mounted new t)))
      (serves : Serves (mounted new t)) (honest : (file_system_meaning (mounted old s)).is_honest) where
    abbrev before : Meaning
    before = file_system_meaning (mounted old s)

    abbrev behind : Meaning
    behind = file_system_meaning (mounted new t)

    may_stand : (c : Images) → OpensTo before s c ⊎ OpensTo before t c → OpensToSome before (MayStand s command t) c
    may_stand c (inl first) = (s, first, (stands_going s command t s is still).1 (inl refl))
    may_stand c (inr last) = (t, last, (stands_going s command t t is still).1 (inr refl))

    pub done : (reply : Reply) (c : Circumstances) → Came (mounted old s) command (mounted new t) c → Allowed c s command reply t
        → LeavesOnly before behind (λ i. OpensTo before s i ⊎ OpensTo before t i) → EachCut behind (OpensTo behind t) → IsApplied (mounted old s) (mounted new t) command reply
    done reply c came allowed leaves now =
        let stands = weaker before behind _ (OpensToSome before (MayStand s command t)) leaves may_stand honest in
        record {
          serves = serves;
          leads = record { circumstances = c; between = between (mounted old s) command (mounted new t) c (time_on before behind _ stands) came; allowed = allowed };
          any_moment = left_within before behind s (MayStand s command t) is same.sectors stands;
          at_answer = left_now behind s (MayRemain s command t) is (same.honest.0 honest)
              (λ is_honest i left. (t, now is_honest i left, (remains_going s command t t is still).1 refl));
        }

  -- one that changed nothing
  pub stayed : (old new : Fs S G) (s : State) (command : Command) → Serves (mounted old s) → s.mark ≡ going → Stays old new s → (reply : Reply) (c : Circumstances)
      → Came (mounted old s) command (mounted new s) c → Allowed c s command reply s → IsApplied (mounted old s) (mounted new s) command reply
  stayed old new s command serves is stays reply c came allowed =
      let m = file_system_meaning (mounted old s) in
      let n = file_system_meaning (mounted new s) in
      done old new s s command is is stays.same stays.serves serves.honest reply c came allowed
      (weaker m n (OpensTo m s) (λ i. OpensTo m s i ⊎ OpensTo m s i) stays.leaves (λ i opens. inl opens))
      (λ honest i left. moved m n s i stays.same.sectors ((stays.leaves serves.honest).each i (n.moment, (stays.leaves serves.honest).later, omega arith, left)))

  -- one that failed the system
  module _ (old new : Fs S G) (s : State) (command : Command) (serves : Serves (mounted old s)) (is : s.mark ≡ going) (stopped : IsTrue new.has_failed)
      (same : IsSameStation (file_system_meaning (mounted old s)) (file_system_meaning (mounted new s))) where
    abbrev first : Meaning
    first = file_system_meaning (mounted old s)

    abbrev last : Meaning
    last = file_system_meaning (mounted new s)

    again : s ≡ record (as_failed s) { mark = going }
    again = λ i. record s { mark = is i }

    pub broken : (c : Circumstances) → Came (mounted old s) command (mounted new (as_failed s)) c → Allowed c s command (Refused EIO) (as_failed s)
        → LeavesOnly first last (OpensToSome first (IsWithin s command)) → IsApplied (mounted old s) (mounted new (as_failed s)) command (Refused EIO)
    broken c came allowed leaves =
        let left = leaves serves.honest in
        let u = as_failed s in
        let within = at_last first last (IsWithin s command) same left in
        let stand = weaker first last _ (OpensToSome first (MayStand s command u)) leaves
        (λ i some. (some.0, some.1, (stands_failed s command u some.0 is refl).1 some.2)) serves.honest in
        record {
          serves = record {
            honest = same.honest.0 serves.honest;
            mark = sym (is_failed new.has_failed stopped);
            kept = λ runs. not_both failed runs refl;
            cut_short = λ _. record {
              command = command;
              each = subst (λ (v : State). EachCut last (OpensToSome last (IsWithin v command))) again within;
            };
          };
          leads = record { circumstances = c; between = between (mounted old s) command (mounted new u) c (time_on first last _ left) came; allowed = allowed };
          any_moment = left_within first last s (MayStand s command u) is same.sectors stand;
          at_answer = left_now last s (MayRemain s command u) is (same.honest.0 serves.honest)
              (λ honest i here. let some = within honest i here in (some.0, some.1, (remains_failed s command u some.0 is refl).1 some.2));
        }

  -- a command to a system that had failed
  pub failed_applied : (f : Fs S G) (s : State) (command : Command) → Serves (mounted f s) → IsTrue f.has_failed → IsApplied (mounted f s) (mounted f s) command (Refused FAILED)
  failed_applied f s command serves stopped =
      let m = file_system_meaning (mounted f s) in
      let is : s.mark ≡ failed = serves.mark ∙ is_failed f.has_failed stopped in
      let opens = λ (c : Images) (t : State). OpensTo m t c in
      let still : (t : ℕ) (c : Images) → m.moment ≤ t → t ≤ m.moment → m.left_at t c → m.left_at m.moment c = λ t c from to left. same_moment m t c from to left in
      let quiet : Circumstances = record { read_failed = false; write_failed = false; memory_refused = false; room = no_room } in
      record {
        serves = serves;
        leads = record {
          circumstances = quiet;
          between = record { goes_on = on_none m; reads = refl; writes = refl; room = λ still. not_both s.mark still is };
          allowed = refused_failed command s.limits s.tree s.snapshots s.session quiet s.mark is;
        };
        any_moment = (leaves_failed m.left_at opens s m.moment m.moment (MayStand s command s) is).1 still;
        at_answer = (leaves_failed m.left_at opens s m.moment m.moment (MayRemain s command s) is).1 still;
      }

  -- a command behind calls that left the state as it was
  pub applied_after : (old mid new : Fs S G) (s t : State) (command : Command) (reply : Reply) → Serves (mounted old s) → s.mark ≡ going → Stays old mid s
      → IsSameStation (file_system_meaning (mounted mid s)) (file_system_meaning (mounted new t))
      → MayGrow (file_system_meaning (mounted old s)).failed_reads (file_system_meaning (mounted mid s)).failed_reads
      → MayGrow (file_system_meaning (mounted mid s)).failed_reads (file_system_meaning (mounted new t)).failed_reads
      → (file_system_meaning (mounted mid s)).failed_writes ≡ (file_system_meaning (mounted old s)).failed_writes
      → IsApplied (mounted mid s) (mounted new t) command reply → IsApplied (mounted old s) (mounted new t) command reply
  applied_after old mid new s t command reply serves is stays same reads later writes applied =
      let m = file_system_meaning (mounted old s) in
      let n = file_system_meaning (mounted mid s) in
      let l = file_system_meaning (mounted new t) in
      let c = applied.leads.circumstances in
      let led = applied.leads.between in
      let read = after_reads m.failed_reads n.failed_reads l.failed_reads s command c reply t reads later led.reads applied.leads.allowed in
      let stand = weaker m n (OpensTo m s) (OpensToSome m (MayStand s command t)) stays.leaves (λ i opens. (s, opens, stands_before s command t is)) serves.honest in
      record {
        serves = applied.serves;
        leads = record {
          circumstances = record c { read_failed = read.0 };
          between = record {
            goes_on = on_twice m n l (time_on m n _ stand) led.goes_on;
            reads = read.1;
            writes = subst (λ (k : ℕ). TellsOfFault c.write_failed k l.failed_writes) writes led.writes;
            room = led.room;
          };
          allowed = read.2;
        };
        any_moment = left_after m n l s (MayStand s command t) is stays.same same stand led.goes_on applied.any_moment;
        at_answer = applied.at_answer;
      }

  -- what a system leaves to a cut
  module _ (f : Fs S G) (s : State) (serves : Serves (mounted f s)) (opens : s.mark ≡ going → EachCut (file_system_meaning (mounted f s)) (OpensTo (file_system_meaning (mounted f s)) s)) where
    abbrev here : Meaning
    here = file_system_meaning (mounted f s)

    abbrev leaves_as : Mark → Type 0
    leaves_as n = elim n [ going ↦ EachCut here (OpensTo here s) | failed ↦ IsCutShort here s ]

    pub served_leaves : LeavesState here s
    served_leaves = elim (cases_mark s.mark) [
      | inl is ↦ subst leaves_as (sym is) (opens is)
      | inr is ↦ subst leaves_as (sym is) (serves.cut_short is)
    ]

    pub served_now : LeftNow here s (λ t. t ≡ s)
    served_now = elim (cases_mark s.mark) [
      | inl is ↦ left_now here s (λ t. t ≡ s) is serves.honest (λ honest c left. (s, opens is honest c left, refl))
      | inr is ↦ (leaves_failed here.left_at (λ c t. OpensTo here t c) s here.moment here.moment (λ t. t ≡ s) is).1 (λ t c from to left. same_moment here t c from to left)
    ]
