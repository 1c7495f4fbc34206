-- A script's commands done one after the other, and how that ends.
use Rattle.std.proofs.Common.{◌≡◌, ℕ, ◌+◌, ◌<◌, ◌≤◌, Bool, true, false, ◌&&◌, List, [], ◌∷◌, ◌++◌, length, take, get_or, Option, Ok, Err, arith, refl, sym, ◌∙◌, ap, subst}
use Rattle.std.specs.Io.KnownBytes.{Appends}
use Rattle.std.proofs.lemmas.List.{length-map, length-take-le, map-append, append-nil, take_all, take_more}
use Rattle.std.proofs.lemmas.List.Elements.{All-nil, All-cons, All-append}
use Rattle.model.specs.declared.command.Command.{Command}
use Rattle.model.specs.declared.reply.Reply.{Reply}
use Rattle.station.specs.declared.station.Station.{Ghosts}
use Rattle.mount.specs.declared.fs.Fs.{Fs}
use Rattle.session.specs.Answers.{cut_line, is_refusal, lines_of_steps, shown, AnswersShowing, EndsAnswer, EndsCut, EndsShort, HasDone, LacksLastReply}
use Rattle.session.specs.Sessions.{commands_of, AreDone, AreFirstOf, EndsRunning, EndsShowing}
use Rattle.session.specs.declared.status.Status.{Status}
use Rattle.session.specs.declared.status.Status.TheVariants.{Done, NotUnderstood, FileFault, Cut, NotMounted, NotACommand, NoMemory, Refused, Faulty}
use Rattle.session.proofs.AnswerLemmas.{appends_none, appends_twice, done_more, lines_more}

-- So far these commands were done and their replies shown; the power is on.
pub record IsReached {S : Type 0} {G : Ghosts S} (first fs : Fs S G) (commands : List Command) (stops : Bool) (was_cut : Bool → Type 0) (o o' : Option (List ℕ)) : Type 0 where
  pub steps : List (Command × Reply)
  pub done : HasDone first fs steps
  pub are : commands_of steps ≡ commands
  pub kept : stops ≡ true → AreDone steps
  pub going : was_cut false
  pub shows : Appends o o' (lines_of_steps steps)

-- what the test of a reply tells
pub both_true : (s r : Bool) → (s && r) ≡ true → (s ≡ true) × (r ≡ true)
both_true true r is = (refl, is)
both_true false r is = absurd (cc)

pub not_both : (s r : Bool) → (s && r) ≡ false → s ≡ true → r ≡ false
not_both true r is on = is
not_both false r is on = absurd (cc)

-- the first i of commands
are_first : (commands : List Command) (i : ℕ) (steps : List (Command × Reply)) → i ≤ length commands → commands_of steps ≡ take i commands → AreFirstOf steps commands
are_first commands i steps within are =
    let count : length steps ≡ i = sym (length-map steps (λ (step : Command × Reply). step.0)) ∙ ap (λ (l : List Command). length l) are ∙ length-take-le i commands within in
    are ∙ ap (λ n. take n commands) (sym count)

one_more : (commands : List Command) (i : ℕ) (steps : List (Command × Reply)) (command : Command) (reply : Reply) → i < length commands → command ≡ get_or commands i command → commands_of steps ≡ take i commands
    → commands_of (steps ++ (command, reply) ∷ []) ≡ take (i + 1) commands
one_more commands i steps command reply below is are =
    map-append (λ (step : Command × Reply). step.0) steps ((command, reply) ∷ []) ∙ ap (λ (l : List Command). l ++ command ∷ []) are ∙ sym (take_more commands i command below ∙ ap (λ (x : Command). take i commands ++ x ∷ []) (sym is))

abbrev short_one : (steps : List (Command × Reply)) (command : Command) (reply : Reply) → LacksLastReply (steps ++ (command, reply) ∷ []) steps
short_one steps command reply = record { rest = (command, reply) ∷ []; is = refl; few = omega arith }

-- a reply that isn't shown whole ends them
ends_short : (steps : List (Command × Reply)) (command : Command) (reply : Reply) (was_cut : Bool → Type 0) (o a b : Option (List ℕ)) (status : Status) → Appends o a (lines_of_steps steps) → EndsAnswer reply was_cut a b (Err status)
    → EndsShort was_cut (steps ++ (command, reply) ∷ []) o b status
ends_short steps command reply was_cut o a b Cut shows ends = (ends.0, (steps, short_one steps command reply, appends_twice o a b _ _ shows ends.1))
ends_short steps command reply was_cut o a b FileFault shows ends = (steps, short_one steps command reply, (ends.0, (ends.1.0, ends.1.1, appends_twice o a b _ _ shows ends.1.2)))
ends_short steps command reply was_cut o a b NoMemory shows ends = (steps, short_one steps command reply, subst (λ (l : List ℕ). Appends o b l) (append-nil (lines_of_steps steps)) (appends_twice o a b _ _ shows ends))
ends_short steps command reply was_cut o a b Done shows ends = absurd ends
ends_short steps command reply was_cut o a b NotUnderstood shows ends = absurd ends
ends_short steps command reply was_cut o a b NotMounted shows ends = absurd ends
ends_short steps command reply was_cut o a b NotACommand shows ends = absurd ends
ends_short steps command reply was_cut o a b Refused shows ends = absurd ends
ends_short steps command reply was_cut o a b Faulty shows ends = absurd ends

short_shows : (stops : Bool) (commands : List Command) (steps : List (Command × Reply)) (was_cut : Bool → Type 0) (o b : Option (List ℕ)) (status : Status) → AreFirstOf steps commands → EndsShort was_cut steps o b status
    → EndsShowing stops was_cut commands steps o b status
short_shows stops commands steps was_cut o b Cut first ends = (first, ends)
short_shows stops commands steps was_cut o b FileFault first ends = (first, ends)
short_shows stops commands steps was_cut o b NoMemory first ends = (first, ends)
short_shows stops commands steps was_cut o b Done first ends = absurd ends
short_shows stops commands steps was_cut o b NotUnderstood first ends = absurd ends
short_shows stops commands steps was_cut o b NotMounted first ends = absurd ends
short_shows stops commands steps was_cut o b NotACommand first ends = absurd ends
short_shows stops commands steps was_cut o b Refused first ends = absurd ends
short_shows stops commands steps was_cut o b Faulty first ends = absurd ends

-- the power was cut before the first command
cut_short : (was_cut : Bool → Type 0) (o a : Option (List ℕ)) (status : Status) → was_cut true → EndsCut o a status → EndsShort was_cut [] o a status
cut_short was_cut o a Cut is ends = (is, ([], record { rest = []; is = refl; few = omega arith }, ends))
cut_short was_cut o a FileFault is ends = ([], record { rest = []; is = refl; few = omega arith }, (cut_line, (ends.0, refl, ends.1)))
cut_short was_cut o a NoMemory is ends = absurd ends
cut_short was_cut o a Done is ends = absurd ends
cut_short was_cut o a NotUnderstood is ends = absurd ends
cut_short was_cut o a NotMounted is ends = absurd ends
cut_short was_cut o a NotACommand is ends = absurd ends
cut_short was_cut o a Refused is ends = absurd ends
cut_short was_cut o a Faulty is ends = absurd ends

module _ {S : Type 0} {G : Ghosts S} (first : Fs S G) (commands : List Command) (stops : Bool) (o : Option (List ℕ)) where
  pub reached_none : (was_cut : Bool → Type 0) → HasDone first first [] → was_cut false → IsReached first first (take 0 commands) stops was_cut o o
  reached_none was_cut done going = record { steps = []; done = done; are = refl; kept = λ is. All-nil (λ (step : Command × Reply). is_refusal step.1 ≡ false); going = going; shows = appends_none o }

  module _ (fs next : Fs S G) (was_cut cut_now : Bool → Type 0) (i : ℕ) (command : Command) (a b : Option (List ℕ)) (below : i < length commands) (is : command ≡ get_or commands i command)
      (reached : IsReached first fs (take i commands) stops was_cut o a) where
    shows_more : (reply : Reply) → Appends a b (shown reply) → Appends o b (lines_of_steps (reached.steps ++ (command, reply) ∷ []))
    shows_more reply shows = subst (λ (l : List ℕ). Appends o b l) (lines_more reached.steps command reply) (appends_twice o a b _ _ reached.shows shows)

    -- one command more
    pub reached_more : (r : Reply) → AnswersShowing fs next command cut_now a b (Ok r) → (stops ≡ true → is_refusal r ≡ false) → IsReached first next (take (i + 1) commands) stops cut_now o b
    reached_more r (reply, answered, ends) kept = record {
      steps = reached.steps ++ (command, reply) ∷ [];
      done = done_more first fs next reached.steps command reply reached.done answered;
      are = one_more commands i reached.steps command reply below is reached.are;
      kept = λ on. All-append (λ (step : Command × Reply). is_refusal step.1 ≡ false) reached.steps ((command, reply) ∷ []) (reached.kept on) (All-cons (λ (step : Command × Reply). is_refusal step.1 ≡ false) (command, reply) [] (subst (λ (x : Reply). is_refusal x ≡ false) ends.0 (kept on)) (All-nil (λ (step : Command × Reply). is_refusal step.1 ≡ false)));
      going = ends.1;
      shows = shows_more reply ends.2;
    }

    -- one that is refused, and ends them
    pub ends_refused : (r : Reply) → AnswersShowing fs next command cut_now a b (Ok r) → stops ≡ true → is_refusal r ≡ true → EndsRunning first next commands stops cut_now o b Refused
    ends_refused r (reply, answered, ends) on refused = (
      reached.steps ++ (command, reply) ∷ [],
      done_more first fs next reached.steps command reply reached.done answered,
      (
        on,
        are_first commands (i + 1) (reached.steps ++ (command, reply) ∷ []) (omega (arith, below)) (one_more commands i reached.steps command reply below is reached.are),
        record { before = reached.steps; command = command; reply = reply; is = refl; done = reached.kept on; refused = subst (λ (x : Reply). is_refusal x ≡ true) ends.0 refused },
        shows_more reply ends.2,
      ),
    )

    -- one whose reply isn't shown whole
    pub ends_shown_short : (status : Status) → AnswersShowing fs next command cut_now a b (Err status) → EndsRunning first next commands stops cut_now o b status
    ends_shown_short status (reply, answered, ends) = (
      reached.steps ++ (command, reply) ∷ [],
      done_more first fs next reached.steps command reply reached.done answered,
      short_shows stops commands _ cut_now o b status
          (are_first commands (i + 1) (reached.steps ++ (command, reply) ∷ []) (omega (arith, below)) (one_more commands i reached.steps command reply below is reached.are))
          (ends_short reached.steps command reply cut_now o a b status reached.shows ends),
    )

  -- all of them
  pub ends_done : (fs : Fs S G) (was_cut : Bool → Type 0) (i : ℕ) (a : Option (List ℕ)) → length commands ≤ i → IsReached first fs (take i commands) stops was_cut o a → EndsRunning first fs commands stops was_cut o a Done
  ends_done fs was_cut i a all reached = (reached.steps, reached.done, (reached.are ∙ take_all i commands all, reached.kept, reached.going, reached.shows))

  -- none of them, since the power was cut before
  pub ends_before : (was_cut : Bool → Type 0) (a : Option (List ℕ)) (status : Status) → HasDone first first [] → was_cut true → EndsCut o a status → EndsRunning first first commands stops was_cut o a status
  ends_before was_cut a status done is ends = ([], done, short_shows stops commands [] was_cut o a status refl (cut_short was_cut o a status is ends))
