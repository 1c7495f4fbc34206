-- Lines answered one after the other, and how that ends.
use Rattle.std.proofs.Common.{◌≡◌, ◌<◌, inl, inr, ℕ, length, Bool, true, false, List, [], ◌∷◌, ◌++◌, Option, Some, None, Result, Ok, Err, refl, sym, ◌∙◌, ap, subst}
use Rattle.std.specs.Prelude.{if◌then◌else◌}
use Rattle.std.specs.Io.KnownBytes.{Appends, IsAtEnd, Keeps}
use Rattle.std.proofs.lemmas.Grind.{flat_map-append}
use Rattle.std.proofs.lemmas.List.{append-nil}
use Rattle.std.proofs.lemmas.List.Elements.{All-append, All-cons, All-nil}
use Rattle.model.specs.declared.command.Command.{Command}
use Rattle.model.specs.declared.reply.Reply.{Reply}
use Rattle.station.specs.declared.station.Station.{Ghosts}
use Rattle.mount.specs.declared.fs.Fs.{Fs}
use Rattle.session.specs.Answers.{cut_line, AnswersShowing, EndsAnswer, EndsCut, HasDone}
use Rattle.session.specs.Reading.{IsInputFault, TakesLine}
use Rattle.session.specs.declared.reading.TheConstants.{LINE_BYTES}
use Rattle.session.specs.Scripts.{is_skipped, IsBadLine, IsLineOf}
use Rattle.session.specs.Shells.{bad_line, said, said_of, step_before, steps_of, AnswersLine, LineComesTo, Dialog, DoesStep, EndsBad, EndsListening, EndsUnsaid, HasHeard, IsLast, TakesLines}
use Rattle.session.specs.declared.status.Status.{Status}
use Rattle.session.specs.declared.status.Status.TheVariants.{Done, NotUnderstood, FileFault, Cut, NotMounted, NotACommand, NoMemory, Refused, Faulty}
use Rattle.session.proofs.AnswerLemmas.{appends_none, appends_twice, done_more}
use Rattle.session.proofs.ReadingLemmas.{keeps_same, loses_kept}

-- ---- one line

-- what a flag shows
flag_says : (b : Bool) (line : List ℕ) → b ≡ is_skipped line → (if b then [] else bad_line) ≡ said_of line None
flag_says b line is = ap (λ (x : Bool). if x then [] else bad_line) is

pub long_comes : (line : List ℕ) (is_comment : Bool) → LINE_BYTES < length line → is_comment ≡ is_skipped line → LineComesTo line None
long_comes line true long is = inl (sym is)
long_comes line false long is = inr (inr (sym is, long))

module _ {S : Type 0} {G : Ghosts S} (fs : Fs S G) (line : List ℕ) (cut : Bool → Type 0) (o : Option (List ℕ)) where
  -- it is answered as no command
  unsaid : (o' : Option (List ℕ)) (b : Bool) (result : Result (Unit {0}) Status) → LineComesTo line None → (if b then [] else bad_line) ≡ said_of line None → EndsBad b o o' result → AnswersLine fs fs line cut cut o o' result
  unsaid o' b (Ok done) comes is ends = (None, comes, refl, λ on. on, subst (λ (l : List ℕ). Appends o o' l) is ends)
  unsaid o' b (Err FileFault) comes is ends = ([], refl, (bad_line, (ends.0, inr refl, ends.1)))
  unsaid o' b (Err Done) comes is ends = absurd ends
  unsaid o' b (Err NotUnderstood) comes is ends = absurd ends
  unsaid o' b (Err Cut) comes is ends = absurd ends
  unsaid o' b (Err NotMounted) comes is ends = absurd ends
  unsaid o' b (Err NotACommand) comes is ends = absurd ends
  unsaid o' b (Err NoMemory) comes is ends = absurd ends
  unsaid o' b (Err Refused) comes is ends = absurd ends
  unsaid o' b (Err Faulty) comes is ends = absurd ends

  pub bad_said : (o' : Option (List ℕ)) (result : Result (Unit {0}) Status) → IsBadLine line → EndsBad false o o' result → AnswersLine fs fs line cut cut o o' result
  bad_said o' result bad ends = unsaid o' false result (inr (inl bad)) (flag_says false line (sym bad.kept)) ends

  pub long_said : (o' : Option (List ℕ)) (is_comment : Bool) (result : Result (Unit {0}) Status) → LINE_BYTES < length line → is_comment ≡ is_skipped line
      → EndsBad is_comment o o' result → AnswersLine fs fs line cut cut o o' result
  long_said o' is_comment result long is ends = unsaid o' is_comment result (long_comes line is_comment long is) (flag_says is_comment line is) ends

  pub not_read : AnswersLine fs fs line cut cut o o (Err NoMemory)
  not_read = ([], refl, appends_none o)

module _ {S : Type 0} {G : Ghosts S} (fs next : Fs S G) (line : List ℕ) (command : Command) (cut_before cut_now : Bool → Type 0) (o o' : Option (List ℕ)) where
  pub command_said : (r : Reply) → IsLineOf line (Some command) → AnswersShowing fs next command cut_now o o' (Ok r) → AnswersLine fs next line cut_before cut_now o o' (Ok tt)
  command_said r is (reply, answered, ends) = (Some (command, reply), is, answered, λ on. ends.1, ends.2)

  pub command_unsaid : (status : Status) → AnswersShowing fs next command cut_now o o' (Err status) → AnswersLine fs next line cut_before cut_now o o' (Err status)
  command_unsaid status (reply, answered, ends) = ((command, reply) ∷ [], answered, as_due status ends)
    where
      as_due : (status : Status) → EndsAnswer reply cut_now o o' (Err status) → EndsUnsaid cut_now ((command, reply) ∷ []) o o' status
      as_due Cut ends = ends
      as_due FileFault ends = (ends.0, (ends.1.0, inl ends.1.1, ends.1.2))
      as_due NoMemory ends = ends
      as_due Done ends = absurd ends
      as_due NotUnderstood ends = absurd ends
      as_due NotMounted ends = absurd ends
      as_due NotACommand ends = absurd ends
      as_due Refused ends = absurd ends
      as_due Faulty ends = absurd ends

-- ---- several lines

abbrev pub list_of : Option (Command × Reply) → List (Command × Reply)
list_of None = []
list_of (Some step) = step ∷ []

behind : (step : Option (Command × Reply)) (steps more : List (Command × Reply)) → step_before step (steps ++ more) ≡ step_before step steps ++ more
behind None steps more = refl
behind (Some s) steps more = refl

alone : (step : Option (Command × Reply)) → step_before step [] ≡ list_of step
alone None = refl
alone (Some s) = refl

pub steps_more : (lines : Dialog) (line : List ℕ) (step : Option (Command × Reply)) → steps_of (lines ++ (line, step) ∷ []) ≡ steps_of lines ++ list_of step
steps_more [] line step = alone step
steps_more (l ∷ ls) line step = ap (λ (x : List (Command × Reply)). step_before l.1 x) (steps_more ls line step) ∙ behind l.1 (steps_of ls) (list_of step)

said_more : (lines : Dialog) (line : List ℕ) (step : Option (Command × Reply)) → said (lines ++ (line, step) ∷ []) ≡ said lines ++ said_of line step
said_more lines line step =
    flat_map-append (λ (l : List ℕ × Option (Command × Reply)). said_of l.0 l.1) lines ((line, step) ∷ []) ∙ ap (λ (x : List ℕ). said lines ++ x) (append-nil (said_of line step))

takes_kept : (a b c : Option (List ℕ)) (line : List ℕ) → Keeps a b → TakesLine b c line → TakesLine a c line
takes_kept a b c line kept takes = record { plain = takes.plain; loses = loses_kept a b c line kept takes.loses }

pub takes_more : (a b c : Option (List ℕ)) (lines : Dialog) (line : List ℕ) (step : Option (Command × Reply)) → TakesLines a b lines → TakesLine b c line → TakesLines a c (lines ++ (line, step) ∷ [])
takes_more a b c [] line step taken takes = (c, takes_kept a b c line taken takes, keeps_same c)
takes_more a b c (l ∷ ls) line step (mid, first, rest) takes = (mid, first, takes_more mid b c ls line step rest takes)

-- So far these lines were answered; the power is on.
pub record IsListening {S : Type 0} {G : Ghosts S} (first fs : Fs S G) (input left o o' : Option (List ℕ)) (was_cut : Bool → Type 0) : Type 0 where
  pub lines : Dialog
  pub heard : HasHeard first fs input left o o' lines
  pub going : was_cut false

module _ {S : Type 0} {G : Ghosts S} (first : Fs S G) where
  heard_none : (input o : Option (List ℕ)) → HasDone first first [] → HasHeard first first input input o o []
  heard_none input o done = record { comes = All-nil (λ (line : List ℕ × Option (Command × Reply)). LineComesTo line.0 line.1); taken = keeps_same input; done = done; shows = appends_none o }

  pub listening_none : (input o : Option (List ℕ)) (was_cut : Bool → Type 0) → HasDone first first [] → was_cut false → IsListening first first input input o o was_cut
  listening_none input o was_cut done going = record { lines = []; heard = heard_none input o done; going = going }

  done_step : (fs next : Fs S G) (steps : List (Command × Reply)) (step : Option (Command × Reply)) → HasDone first fs steps → DoesStep fs next step
      → HasDone first next (steps ++ list_of step)
  done_step fs next steps None done does = subst (λ (l : List (Command × Reply)). HasDone first next l) (sym (append-nil steps)) (subst (λ (f : Fs S G). HasDone first f steps) (sym does) done)
  done_step fs next steps (Some step) done does = done_more first fs next steps step.0 step.1 done does

  -- one line more
  pub listening_more : (fs next : Fs S G) (input left behind_it o a b : Option (List ℕ)) (line : List ℕ) (cut_before cut_now : Bool → Type 0) → IsListening first fs input left o a cut_before → TakesLine left behind_it line
      → AnswersLine fs next line cut_before cut_now a b (Ok tt) → IsListening first next input behind_it o b cut_now
  listening_more fs next input left behind_it o a b line cut_before cut_now so_far takes (step, comes, does, stays, shows) =
      let heard = so_far.heard in
      let lines = so_far.lines in
      record {
        lines = lines ++ (line, step) ∷ [];
        heard = record {
          comes = All-append (λ (l : List ℕ × Option (Command × Reply)). LineComesTo l.0 l.1) lines ((line, step) ∷ []) heard.comes (All-cons (λ (l : List ℕ × Option (Command × Reply)). LineComesTo l.0 l.1) (line, step) [] comes (All-nil (λ (l : List ℕ × Option (Command × Reply)). LineComesTo l.0 l.1)));
          taken = takes_more input left behind_it lines line step heard.taken takes;
          done = subst (λ (l : List (Command × Reply)). HasDone first next l) (sym (steps_more lines line step)) (done_step fs next (steps_of lines) step heard.done does);
          shows = subst (λ (l : List ℕ). Appends o b l) (sym (said_more lines line step)) (appends_twice o a b (said lines) (said_of line step) heard.shows shows);
        };
        going = stays so_far.going;
      }

  pub ends_all : (fs : Fs S G) (input left o a : Option (List ℕ)) (was_cut : Bool → Type 0) → IsListening first fs input left o a was_cut → IsAtEnd left → EndsListening first fs was_cut input o a Done
  ends_all fs input left o a was_cut so_far end = (so_far.lines, (left, so_far.heard, end, so_far.going))

  -- behind some lines that are answered whole
  ends_behind : (fs next : Fs S G) (input left o a b : Option (List ℕ)) (was_cut : Bool → Type 0) (lines : Dialog) (rest : List (Command × Reply)) (status : Status) → HasHeard first fs input left o a lines → IsLast fs next rest → EndsUnsaid was_cut rest a b status
      → EndsListening first next was_cut input o b status
  ends_behind fs next input left o a b was_cut lines rest Cut heard last ends = (lines, (left, (a, (fs, heard, (rest, last, ends)))))
  ends_behind fs next input left o a b was_cut lines rest FileFault heard last ends = (lines, (left, (a, (fs, heard, (rest, last, ends)))))
  ends_behind fs next input left o a b was_cut lines rest NoMemory heard last ends = (lines, (left, (a, (fs, heard, (rest, last, ends)))))
  ends_behind fs next input left o a b was_cut lines rest Done heard last ends = absurd ends
  ends_behind fs next input left o a b was_cut lines rest NotUnderstood heard last ends = absurd ends
  ends_behind fs next input left o a b was_cut lines rest NotMounted heard last ends = absurd ends
  ends_behind fs next input left o a b was_cut lines rest NotACommand heard last ends = absurd ends
  ends_behind fs next input left o a b was_cut lines rest Refused heard last ends = absurd ends
  ends_behind fs next input left o a b was_cut lines rest Faulty heard last ends = absurd ends

  pub ends_unsaid : (fs next : Fs S G) (input left o a b : Option (List ℕ)) (line : List ℕ) (cut_before cut_now : Bool → Type 0) (status : Status) → IsListening first fs input left o a cut_before → AnswersLine fs next line cut_before cut_now a b (Err status)
      → EndsListening first next cut_now input o b status
  ends_unsaid fs next input left o a b line cut_before cut_now status so_far (rest, last, ends) = ends_behind fs next input left o a b cut_now so_far.lines rest status so_far.heard last ends

  fault_unsaid : (was_cut : Bool → Type 0) (a : Option (List ℕ)) (status : Status) → IsInputFault status → EndsUnsaid was_cut [] a a status
  fault_unsaid was_cut a FileFault fault = (cut_line, (0, inl refl, appends_none a))
  fault_unsaid was_cut a NoMemory fault = appends_none a
  fault_unsaid was_cut a Done fault = absurd fault
  fault_unsaid was_cut a NotUnderstood fault = absurd fault
  fault_unsaid was_cut a Cut fault = absurd fault
  fault_unsaid was_cut a NotMounted fault = absurd fault
  fault_unsaid was_cut a NotACommand fault = absurd fault
  fault_unsaid was_cut a Refused fault = absurd fault
  fault_unsaid was_cut a Faulty fault = absurd fault

  pub ends_unread : (fs : Fs S G) (input left o a : Option (List ℕ)) (was_cut : Bool → Type 0) (status : Status) → IsListening first fs input left o a was_cut → IsInputFault status → EndsListening first fs was_cut input o a status
  ends_unread fs input left o a was_cut status so_far fault = ends_behind fs fs input left o a a was_cut so_far.lines [] status so_far.heard refl (fault_unsaid was_cut a status fault)

  cut_unsaid : (was_cut : Bool → Type 0) (o a : Option (List ℕ)) (status : Status) → was_cut true → EndsCut o a status → EndsUnsaid was_cut [] o a status
  cut_unsaid was_cut o a Cut is ends = (is, ends)
  cut_unsaid was_cut o a FileFault is ends = (cut_line, (ends.0, inl refl, ends.1))
  cut_unsaid was_cut o a NoMemory is ends = absurd ends
  cut_unsaid was_cut o a Done is ends = absurd ends
  cut_unsaid was_cut o a NotUnderstood is ends = absurd ends
  cut_unsaid was_cut o a NotMounted is ends = absurd ends
  cut_unsaid was_cut o a NotACommand is ends = absurd ends
  cut_unsaid was_cut o a Refused is ends = absurd ends
  cut_unsaid was_cut o a Faulty is ends = absurd ends

  -- the power was cut before the first line
  pub ends_at_first : (input o a : Option (List ℕ)) (was_cut : Bool → Type 0) (status : Status) → HasDone first first [] → was_cut true → EndsCut o a status → EndsListening first first was_cut input o a status
  ends_at_first input o a was_cut status done is ends = ends_behind first first input input o o a was_cut [] [] status (heard_none input o done) refl (cut_unsaid was_cut o a status is ends)
