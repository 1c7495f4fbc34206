-- Lines answered in batches, and how that ends.
use Rattle.std.proofs.Common.{◌≡◌, ◌⊎◌, inl, inr, ℕ, Bool, true, false, ◌&&◌, List, [], ◌∷◌, ◌++◌, take, Option, Some, None, Result, Ok, Err, refl, sym, ◌∙◌, ap, subst}
use Rattle.std.specs.Io.KnownBytes.{Appends, IsAtEnd, Keeps}
use Rattle.std.specs.Prelude.{All, IsTrue}
use Rattle.std.proofs.lemmas.Bool.{false≢true}
use Rattle.std.proofs.lemmas.List.{append-nil}
use Rattle.std.proofs.lemmas.List.Elements.{All-nil, All-cons, All-append, All-head, All-tail}
use Rattle.model.specs.declared.command.Command.{Command}
use Rattle.model.specs.declared.errno.Errno.{Errno}
use Rattle.model.specs.declared.reply.Reply.{Reply}
use Rattle.station.specs.declared.station.Station.{Ghosts}
use Rattle.system.specs.Waits.{none_waits}
use Rattle.mount.specs.declared.waiting.Waiting.{Waiting}
use Rattle.session.specs.Answers.{cut_line, is_refusal, EndsCut}
use Rattle.session.specs.Reading.{IsHeardAs, IsInputFault, TakesLine}
use Rattle.session.specs.Rounds.{AreAnswered, IsKept, dialog_of}
use Rattle.session.specs.Scripts.{IsScriptOf}
use Rattle.session.specs.Sessions.{AreDone, EndsRefused, Written}
use Rattle.session.specs.Shells.{Dialog, LineComesTo, TakesLines, steps_of}
use Rattle.session.specs.Talks.{AreTaken, EndsInBatches, EndsScript, EndsShown, EndsTalking, HasTold, lines}
use Rattle.session.specs.UnderWay.{EndsAt, GoesOn, HasStopped, IsSettled, IsUnderWay, StopsBy, is_refused_step}
use Rattle.session.specs.declared.ending.Ending.{Ending}
use Rattle.session.specs.declared.ending.Ending.TheVariants as ending
use Rattle.session.specs.declared.ending.Fault.TheVariants as fault
use Rattle.session.specs.declared.in_batches.Manners.{Manners}
use Rattle.session.specs.declared.kept.Kept.{Kept}
use Rattle.session.specs.declared.status.Status.{Status}
use Rattle.session.specs.declared.status.Status.TheVariants.{Done, NotUnderstood, FileFault, Cut, NotMounted, NotACommand, NoMemory, Refused, Faulty}
use Rattle.session.proofs.AnswerLemmas.{appends_none}
use Rattle.session.proofs.ReadingLemmas.{keeps_same}
use Rattle.session.proofs.RunLemmas.{both_true, not_both}
use Rattle.session.proofs.ShellLemmas.{list_of, steps_more, takes_more}
use Rattle.session.proofs.TalkLemmas.{cut_shown, none_at_all, settled_answers, settled_is, settled_shows, settling}

abbrev Line : Type 0
Line = List ℕ × Option (Command × Reply)

abbrev Comes : Line → Type 0
Comes line = LineComesTo line.0 line.1

-- ---- lines that were taken

all_first : (P : Line → Type 0) (xs ys : Dialog) → All P (xs ++ ys) → All P xs
all_first P [] ys all = All-nil P
all_first P (x ∷ xs) ys all = All-cons P x xs (All-head P x (xs ++ ys) all) (all_first P xs ys (All-tail P x (xs ++ ys) all))

takes_first : (a c : Option (List ℕ)) (xs ys : Dialog) → TakesLines a c (xs ++ ys) → (b : Option (List ℕ)) × TakesLines a b xs
takes_first a c [] ys taken = (a, keeps_same a)
takes_first a c (x ∷ xs) ys (mid, first, rest) = let found = takes_first mid c xs ys rest in (found.0, (mid, first, found.1))

taken_first : (a c : Option (List ℕ)) (xs ys : Dialog) → AreTaken a c (xs ++ ys) → (b : Option (List ℕ)) × AreTaken a b xs
taken_first a c xs ys taken =
    let found = takes_first a c xs ys taken.taken in
    (found.0, record { comes = all_first Comes xs ys taken.comes; taken = found.1 })

taken_more : (a b c : Option (List ℕ)) (dialog : Dialog) (line : List ℕ) (step : Option (Command × Reply)) → AreTaken a b dialog → TakesLine b c line → LineComesTo line step → AreTaken a c (dialog ++ (line, step) ∷ [])
taken_more a b c dialog line step taken takes comes = record {
  comes = All-append Comes dialog ((line, step) ∷ []) taken.comes (All-cons Comes (line, step) [] comes (All-nil Comes));
  taken = takes_more a b c dialog line step taken.taken takes;
}

-- ---- refusals

abbrev Accepted : Command × Reply → Type 0
Accepted step = is_refusal step.1 ≡ false

accepted_more : (steps : List (Command × Reply)) (step : Option (Command × Reply)) → AreDone steps → is_refused_step step ≡ false → AreDone (steps ++ list_of step)
accepted_more steps None accepted off = subst AreDone (sym (append-nil steps)) accepted
accepted_more steps (Some step) accepted off = All-append Accepted steps (step ∷ []) accepted (All-cons Accepted step [] off (All-nil Accepted))

refused_last : (steps : List (Command × Reply)) (step : Option (Command × Reply)) → AreDone steps → is_refused_step step ≡ true → EndsRefused (steps ++ list_of step)
refused_last steps None accepted on = absurd (false≢true on)
refused_last steps (Some step) accepted on = record { before = steps; command = step.0; reply = step.1; is = refl; done = accepted; refused = on }

none_refused : AreDone []
none_refused = All-nil Accepted

-- ---- how the answers end

module _ {S : Type 0} {G : Ghosts S} (m : Manners) (first : Waiting S G) (input o : Option (List ℕ)) where
  -- behind some that are shown whole
  stopped : (now : Waiting S G) (left b : Option (List ℕ)) (was_cut : Bool → Type 0) (dialog : Dialog) (status : Status) → AreTaken input left dialog → HasStopped m.durability first now o b was_cut dialog status
      → EndsTalking m first now was_cut input o b status
  stopped now left b was_cut dialog status taken at = by status at.ends
    where
      before : (c : Option (List ℕ)) × AreTaken input c (dialog_of at.rounds)
      before = taken_first input left (dialog_of at.rounds) at.more (subst (λ (l : Dialog). AreTaken input left l) (sym at.is) taken)

      told : HasTold m.durability first at.mid input before.0 o at.shown at.rounds
      told = record { answered = at.answered; taken = before.1; shows = at.shows }

      by : (s : Status) → EndsShown was_cut at.rest at.shown b s → EndsTalking m first now was_cut input o b s
      by Cut ends = (at.rounds, (before.0, (at.shown, (at.mid, told, (at.rest, at.leads, ends)))))
      by FileFault ends = (at.rounds, (before.0, (at.shown, (at.mid, told, (at.rest, at.leads, ends)))))
      by NoMemory ends = (at.rounds, (before.0, (at.shown, (at.mid, told, (at.rest, at.leads, ends)))))
      by Done ends = absurd ends
      by NotUnderstood ends = absurd ends
      by NotMounted ends = absurd ends
      by NotACommand ends = absurd ends
      by Refused ends = absurd ends
      by Faulty ends = absurd ends

  -- So far these lines were answered.
  pub record IsTalking (now : Waiting S G) (a left : Option (List ℕ)) (kept : Kept) : Type 0 where
    pub dialog : Dialog
    pub under_way : IsUnderWay m.durability first now o a kept dialog false
    pub taken : AreTaken input left dialog
    pub accepted : IsTrue m.stops → AreDone (steps_of dialog)

  pub talking_none : (kept : Kept) → AreAnswered m.durability first first [] → IsKept kept [] → IsTalking first o input kept
  talking_none kept answered owes = record {
    dialog = [];
    under_way = record { rounds = []; border = first; lines = []; answered = answered; waits = refl; owes = owes; shows = appends_none o; is = refl; none = none_at_all m.durability };
    taken = record { comes = All-nil Comes; taken = keeps_same input };
    accepted = λ stops. none_refused;
  }

  module _ (now : Waiting S G) (a left : Option (List ℕ)) (kept : Kept) (so_far : IsTalking now a left kept) where
    -- the input can't be read
    pub ends_unread : (was_cut : Bool → Type 0) (status : Status) → IsInputFault status → EndsTalking m first now was_cut input o a status
    ends_unread was_cut status fault = stopped now left a was_cut so_far.dialog status so_far.taken (record {
      rounds = so_far.under_way.rounds;
      mid = so_far.under_way.border;
      shown = a;
      rest = lines so_far.under_way.lines;
      more = so_far.under_way.lines;
      answered = so_far.under_way.answered;
      shows = so_far.under_way.shows;
      leads = so_far.under_way.waits;
      ends = by status fault;
      is = so_far.under_way.is;
    })
      where
        by : (s : Status) → IsInputFault s → EndsShown was_cut (lines so_far.under_way.lines) a a s
        by FileFault fault = (cut_line, (0, inr refl, appends_none a))
        by NoMemory fault = appends_none a
        by Cut fault = absurd fault
        by Done fault = absurd fault
        by NotUnderstood fault = absurd fault
        by NotMounted fault = absurd fault
        by NotACommand fault = absurd fault
        by Refused fault = absurd fault
        by Faulty fault = absurd fault

    -- all is answered and durable at the input's end
    pub ends_done : (new : Waiting S G) (b : Option (List ℕ)) (was_cut : Bool → Type 0) (status : Status) → IsAtEnd left → new.records ≡ none_waits → EndsAt m.durability first new o b was_cut so_far.dialog Done status
        → EndsTalking m first new was_cut input o b status
    ends_done new b was_cut status end emptied (inl (is, (kept', (done, at)))) = subst (λ (s : Status). EndsTalking m first new was_cut input o b s) (sym is) (
      at.rounds ++ settling at.lines done ∷ [],
      (left, told, end, (λ stops. subst (λ (l : Dialog). AreDone (steps_of l)) (sym same) (so_far.accepted stops)), emptied, at.going),
    )
      where
        same : dialog_of (at.rounds ++ settling at.lines done ∷ []) ≡ so_far.dialog
        same = settled_is m.durability first o new b kept' was_cut so_far.dialog done at

        told : HasTold m.durability first new input left o b (at.rounds ++ settling at.lines done ∷ [])
        told = record {
          answered = settled_answers m.durability first o new b kept' was_cut so_far.dialog done at;
          taken = subst (λ (l : Dialog). AreTaken input left l) (sym same) so_far.taken;
          shows = settled_shows m.durability first o new b kept' was_cut so_far.dialog done at;
        }
    ends_done new b was_cut status end emptied (inr at) = stopped new left b was_cut so_far.dialog status so_far.taken at

    -- ---- a line more

    module _ (behind : Option (List ℕ)) (line : List ℕ) (takes : TakesLine left behind line) where
      pub ends_by : (new : Waiting S G) (b : Option (List ℕ)) (was_cut : Bool → Type 0) (status : Status) → StopsBy m.durability first new o b was_cut so_far.dialog line status → EndsTalking m first new was_cut input o b status
      ends_by new b was_cut status (at, has, inl is) = stopped new left b was_cut at status (subst (λ (l : Dialog). AreTaken input left l) (sym is) so_far.taken) has
      ends_by new b was_cut status (at, has, inr (step, comes, is)) =
          stopped new behind b was_cut at status (subst (λ (l : Dialog). AreTaken input behind l) (sym is) (taken_more input left behind so_far.dialog line step so_far.taken takes comes)) has

      module _ (new : Waiting S G) (b : Option (List ℕ)) (kept' : Kept) (is_refused : Bool) (on : GoesOn m.durability first new o b kept' so_far.dialog line false is_refused) where
        abbrev now_taken : AreTaken input behind (so_far.dialog ++ (line, on.step) ∷ [])
        now_taken = taken_more input left behind so_far.dialog line on.step so_far.taken takes on.comes

        pub talking_more : (m.stops && is_refused) ≡ false → IsTalking new b behind kept'
        talking_more goes = record {
          dialog = so_far.dialog ++ (line, on.step) ∷ [];
          under_way = on.under_way;
          taken = now_taken;
          accepted = λ stops. subst AreDone (sym (steps_more so_far.dialog line on.step)) (accepted_more (steps_of so_far.dialog) on.step (so_far.accepted stops) (sym on.refused ∙ not_both m.stops is_refused goes stops));
        }

        -- the first refusal ends them
        pub ends_refused : (last : Waiting S G) (e : Option (List ℕ)) (was_cut : Bool → Type 0) (status : Status) → (m.stops && is_refused) ≡ true → last.records ≡ none_waits
            → EndsAt m.durability first last o e was_cut (so_far.dialog ++ (line, on.step) ∷ []) Refused status → EndsTalking m first last was_cut input o e status
        ends_refused last e was_cut status both emptied (inl (is, (kept'', (done, at)))) = subst (λ (s : Status). EndsTalking m first last was_cut input o e s) (sym is) (
          at.rounds ++ settling at.lines done ∷ [],
          (behind, told, (both_true m.stops is_refused both).0, subst (λ (l : Dialog). EndsRefused (steps_of l)) (sym same) refusal, emptied, at.going),
        )
          where
            same : dialog_of (at.rounds ++ settling at.lines done ∷ []) ≡ so_far.dialog ++ (line, on.step) ∷ []
            same = settled_is m.durability first o last e kept'' was_cut (so_far.dialog ++ (line, on.step) ∷ []) done at

            told : HasTold m.durability first last input behind o e (at.rounds ++ settling at.lines done ∷ [])
            told = record {
              answered = settled_answers m.durability first o last e kept'' was_cut (so_far.dialog ++ (line, on.step) ∷ []) done at;
              taken = subst (λ (l : Dialog). AreTaken input behind l) (sym same) now_taken;
              shows = settled_shows m.durability first o last e kept'' was_cut (so_far.dialog ++ (line, on.step) ∷ []) done at;
            }

            refusal : EndsRefused (steps_of (so_far.dialog ++ (line, on.step) ∷ []))
            refusal = subst EndsRefused (sym (steps_more so_far.dialog line on.step))
                (refused_last (steps_of so_far.dialog) on.step (so_far.accepted (both_true m.stops is_refused both).0) (sym on.refused ∙ (both_true m.stops is_refused both).1))
        ends_refused last e was_cut status both emptied (inr at) = stopped last behind e was_cut (so_far.dialog ++ (line, on.step) ∷ []) status now_taken at

  -- the power was cut before the first line
  pub ends_at_first : (a : Option (List ℕ)) (was_cut : Bool → Type 0) (status : Status) → AreAnswered m.durability first first [] → was_cut true → EndsCut o a status → EndsTalking m first first was_cut input o a status
  ends_at_first a was_cut status answered is ends = stopped first input a was_cut [] status (record { comes = All-nil Comes; taken = keeps_same input }) (record {
    rounds = [];
    mid = first;
    shown = o;
    rest = lines [];
    more = [];
    answered = answered;
    shows = appends_none o;
    leads = refl;
    ends = cut_shown was_cut (lines []) o a status is ends;
    is = refl;
  })

-- a session over a script's lines
script_ends : {S : Type 0} (G : Ghosts S) (script : List ℕ) (commands : List Command) (m : Manners) (was_cut : S → Bool → Type 0) (old new : S) (input' : Option (List ℕ)) (w w' : Written) (faulted : Type 0) (e : Ending)
    → IsScriptOf script commands → EndsInBatches G m was_cut old new (Some script) input' w w' faulted e → EndsScript G script m was_cut old new w w' e
script_ends G script commands m was_cut old new input' w w' faulted (ending.Ran status) is talked = record {
  fs = talked.fs;
  is_mounted = talked.is_mounted;
  first = talked.first;
  begins = talked.begins;
  heard = talked.heard;
  why = talked.why;
  ends = talked.ends;
  last = talked.last;
  done = talked.done;
  commits = talked.commits;
  station = talked.station;
  told = talked.told;
  quiet = talked.quiet;
  tells = talked.tells;
  fault = λ on. tt;
}
script_ends G script commands m was_cut old new input' w w' faulted (ending.Unrun (fault.Mount error) status) is none = record {
  has = record { commands = commands; script_is = is; goes = none.goes; refusal = none.refusal };
  shows = none.shows;
  tells = none.tells;
}
script_ends G script commands m was_cut old new input' w w' faulted (ending.Unrun fault.NoMemory status) is none = absurd none
script_ends G script commands m was_cut old new input' w w' faulted (ending.Unrun (fault.Line n) status) is none = absurd none

-- where the input has just these
pub input_ends : {S : Type 0} (G : Ghosts S) (script : List ℕ) (commands : List Command) (m : Manners) (was_cut : S → Bool → Type 0) (old new : S) (input input' : Option (List ℕ)) (w w' : Written) (faulted : Type 0) (e : Ending)
    → IsScriptOf script commands → input ≡ Some script → EndsInBatches G m was_cut old new input input' w w' faulted e → EndsScript G script m was_cut old new w w' e
input_ends G script commands m was_cut old new input input' w w' faulted e is same ends =
    script_ends G script commands m was_cut old new input' w w' faulted e is (subst (λ (k : Option (List ℕ)). EndsInBatches G m was_cut old new k input' w w' faulted e) same ends)
