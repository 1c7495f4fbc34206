-- A session whose commands may wait, line by line.
use Rattle.std.proofs.Common.{◌≡◌, ◌⊎◌, inl, inr, ℕ, ◌≤◌, Bool, true, false, List, [], ◌∷◌, ◌++◌, length, take, Option, Some, None, Result, Ok, Err, refl, sym, ◌∙◌, ap, subst, append_assoc}
use Rattle.std.specs.Io.KnownBytes.{Appends}
use Rattle.std.specs.Prelude.{All, MatchResult, if◌then◌else◌}
use Rattle.std.proofs.lemmas.Grind.{flat_map-append}
use Rattle.std.proofs.lemmas.List.{append-nil}
use Rattle.std.proofs.lemmas.List.Elements.{All-nil, All-cons, All-append}
use Rattle.model.specs.declared.command.Command.{Command}
use Rattle.model.specs.declared.errno.Errno.{Errno}
use Rattle.model.specs.declared.reply.Reply.{Reply}
use Rattle.station.specs.declared.station.Station.{Ghosts}
use Rattle.mount.specs.Batching.{AppliesAlone, CommitsAll, MayWait}
use Rattle.mount.specs.declared.waiting.Waiting.{Waiting}
use Rattle.session.specs.Answers.{cut_line, is_refusal, shown, EndsCut, EndsReply}
use Rattle.session.specs.Rounds.{AddsLine, AreAnswered, Commits, HasTried, IsKept, LeadsRound, Round, WaitAll, Waits, dialog_of, does, is_promise, lines_of, loses, lost_of, promises, refuses, said_behind, said_lost, settles, told, told_of, waits}
use Rattle.session.specs.Shells.{Dialog, LineComesTo, said, said_of}
use Rattle.session.specs.Talks.{EndsShown, LeadsUnanswered, Unanswered, due_of, lines, round, single}
use Rattle.session.specs.UnderWay.{AnswersBehind, DoesNothing, GoesOn, HasStopped, IsSettled, IsUnderWay, PromisesNone, ShowsKept}
use Rattle.session.specs.declared.durability.Durability.{Durability}
use Rattle.session.specs.declared.durability.Durability.TheVariants.{Together, Deferred}
use Rattle.session.specs.declared.kept.Kept.{Kept}
use Rattle.session.specs.declared.settling.Done.{Done}
use Rattle.session.specs.declared.status.Status.{Status}
use Rattle.session.specs.declared.status.Status.TheVariants.{Done as ended, NotUnderstood, FileFault, Cut, NotMounted, NotACommand, NoMemory, Refused, Faulty}
use Rattle.session.proofs.AnswerLemmas.{appends_none, appends_twice}
use Rattle.session.proofs.RoundLemmas.{answered_more, told_more, waits_more}

-- ---- what is kept

abbrev Line : Type 0
Line = List ℕ × Option (Command × Reply)

kept_more : (old new : Kept) (ls : Dialog) (line : List ℕ) (step : Option (Command × Reply)) → IsKept old ls → AddsLine old new line step → IsKept new (ls ++ (line, step) ∷ [])
kept_more old new ls line step kept adds = record {
  told = adds.told ∙ ap (λ (x : List ℕ). x ++ said_of line step) kept.told
      ∙ ap (λ (x : List ℕ). said ls ++ x) (sym (append-nil (said_of line step))) ∙ sym (flat_map-append (λ (l : Line). said_of l.0 l.1) ls ((line, step) ∷ []));
  lost = adds.lost ∙ ap (λ (x : List ℕ). x ++ lost_of line step) kept.lost
      ∙ ap (λ (x : List ℕ). said_lost ls ++ x) (sym (append-nil (lost_of line step))) ∙ sym (flat_map-append (λ (l : Line). lost_of l.0 l.1) ls ((line, step) ∷ []));
}

none_more : (d : Durability) (promised : Bool) (ls : Dialog) (line : List ℕ) (step : Option (Command × Reply)) → promised ≡ promises step → PromisesNone d false ls → PromisesNone d promised (ls ++ (line, step) ∷ [])
none_more Together promised ls line step is none = tt
none_more (Deferred milliseconds bytes) promised ls line step is none = λ off.
    All-append (λ (l : Line). promises l.1 ≡ false) ls ((line, step) ∷ []) (none refl)
    (All-cons (λ (l : Line). promises l.1 ≡ false) (line, step) [] (sym is ∙ off) (All-nil (λ (l : Line). promises l.1 ≡ false)))

pub none_at_all : (d : Durability) → PromisesNone d false []
none_at_all Together = tt
none_at_all (Deferred milliseconds bytes) = λ off. All-nil (λ (l : Line). promises l.1 ≡ false)

dialog_more : (rounds : List Round) (r : Round) → dialog_of (rounds ++ r ∷ []) ≡ dialog_of rounds ++ lines_of r
dialog_more rounds r = flat_map-append lines_of rounds (r ∷ []) ∙ ap (λ (l : Dialog). dialog_of rounds ++ l) (append-nil (lines_of r))

-- how a showing ends behind rounds that are shown whole
pub cut_shown : (was_cut : Bool → Type 0) (rest : Unanswered) (o o' : Option (List ℕ)) (status : Status) → was_cut true → EndsCut o o' status → EndsShown was_cut rest o o' status
cut_shown was_cut rest o o' Cut is ends = (is, ends)
cut_shown was_cut rest o o' FileFault is ends = (cut_line, (ends.0, inr refl, ends.1))
cut_shown was_cut rest o o' NoMemory is ends = absurd ends
cut_shown was_cut rest o o' ended is ends = absurd ends
cut_shown was_cut rest o o' NotUnderstood is ends = absurd ends
cut_shown was_cut rest o o' NotMounted is ends = absurd ends
cut_shown was_cut rest o o' NotACommand is ends = absurd ends
cut_shown was_cut rest o o' Refused is ends = absurd ends
cut_shown was_cut rest o o' Faulty is ends = absurd ends

pub kept_shown : (was_cut : Bool → Type 0) (rest : Unanswered) (ls : Dialog) (is_lost : Bool) (kept : Kept) (o o' : Option (List ℕ)) (status : Status)
    → (if is_lost then said_lost ls else said ls) ≡ due_of rest → ShowsKept ls is_lost o o' kept (Err status) → EndsShown was_cut rest o o' status
kept_shown was_cut rest ls is_lost kept o o' FileFault is ends = (if is_lost then said_lost ls else said ls, (ends.0, inl is, ends.1))
kept_shown was_cut rest ls is_lost kept o o' Cut is ends = absurd ends
kept_shown was_cut rest ls is_lost kept o o' NoMemory is ends = absurd ends
kept_shown was_cut rest ls is_lost kept o o' ended is ends = absurd ends
kept_shown was_cut rest ls is_lost kept o o' NotUnderstood is ends = absurd ends
kept_shown was_cut rest ls is_lost kept o o' NotMounted is ends = absurd ends
kept_shown was_cut rest ls is_lost kept o o' NotACommand is ends = absurd ends
kept_shown was_cut rest ls is_lost kept o o' Refused is ends = absurd ends
kept_shown was_cut rest ls is_lost kept o o' Faulty is ends = absurd ends

pub reply_shown : (was_cut : Bool → Type 0) (rest : Unanswered) (reply : Reply) (o o' : Option (List ℕ)) (status : Status)
    → due_of rest ≡ shown reply → EndsReply reply o o' (Err status) → EndsShown was_cut rest o o' status
reply_shown was_cut rest reply o o' FileFault is ends = (shown reply, (ends.0, inl (sym is), ends.1))
reply_shown was_cut rest reply o o' NoMemory is ends = ends
reply_shown was_cut rest reply o o' Cut is ends = absurd ends
reply_shown was_cut rest reply o o' ended is ends = absurd ends
reply_shown was_cut rest reply o o' NotUnderstood is ends = absurd ends
reply_shown was_cut rest reply o o' NotMounted is ends = absurd ends
reply_shown was_cut rest reply o o' NotACommand is ends = absurd ends
reply_shown was_cut rest reply o o' Refused is ends = absurd ends
reply_shown was_cut rest reply o o' Faulty is ends = absurd ends

-- ---- a commit behind the lines that wait

-- the round that a commit makes of lines
abbrev pub settling : Dialog → Result (Unit {0}) Errno → Round
settling ls (Ok done) = settles ls
settling ls (Err errno) = loses ls errno

settling_lines : (ls : Dialog) (done : Result (Unit {0}) Errno) → lines_of (settling ls done) ≡ ls
settling_lines ls (Ok done) = refl
settling_lines ls (Err errno) = refl

pub settling_told : (ls : Dialog) (done : Result (Unit {0}) Errno) → said_behind done ls ≡ told_of (settling ls done)
settling_told ls (Ok done) = refl
settling_told ls (Err errno) = refl

module _ {S : Type 0} {G : Ghosts S} (d : Durability) (first : Waiting S G) (o : Option (List ℕ)) where
  settling_leads : (old new : Waiting S G) (ls : Dialog) (done : Result (Unit {0}) Errno) → Commits old new ls done → LeadsRound d old new (settling ls done)
  settling_leads old new ls (Ok done) commits = commits
  settling_leads old new ls (Err errno) commits = commits

  abbrev commits_of : (border mid ready new : Waiting S G) (ls : Dialog) (done : Result (Unit {0}) Errno) → WaitAll border mid ls → HasTried mid ready → CommitsAll ready new done → Commits border new ls done
  commits_of border mid ready new ls done each tried commits = record { mid = mid; each = each; ready = ready; tried = tried; commits = commits }

  module _ (now new : Waiting S G) (a b : Option (List ℕ)) (kept kept' : Kept) (dialog : Dialog) (promised : Bool) (under_way : IsUnderWay d first now o a kept dialog promised) where
    pub settled : (ready : Waiting S G) (was_cut : Bool → Type 0) (done : Result (Unit {0}) Errno) (is_lost : Bool) → HasTried now ready → CommitsAll ready new done → was_cut false
        → ((ls : Dialog) → (if is_lost then said_lost ls else said ls) ≡ said_behind done ls) → ShowsKept under_way.lines is_lost a b kept' (Ok tt) → IsSettled d first new o b kept' was_cut dialog done
    settled ready was_cut done is_lost tried commits going is shows = record {
      rounds = under_way.rounds;
      border = under_way.border;
      lines = under_way.lines;
      answered = under_way.answered;
      commits = commits_of under_way.border now ready new under_way.lines done under_way.waits tried commits;
      owes = shows.1;
      shows = appends_twice o a b (told under_way.rounds) (said_behind done under_way.lines) under_way.shows (subst (λ (l : List ℕ). Appends a b l) (is under_way.lines) shows.0);
      is = under_way.is;
      going = going;
    }

    -- the showing of what is kept behind a commit stopped
    stopped_settling : (ready : Waiting S G) (was_cut : Bool → Type 0) (done : Result (Unit {0}) Errno) (status : Status) → HasTried now ready → CommitsAll ready new done → EndsShown was_cut (round (settling under_way.lines done)) a b status → HasStopped d first new o b was_cut dialog status
    stopped_settling ready was_cut done status tried commits ends = record {
      rounds = under_way.rounds;
      mid = under_way.border;
      shown = a;
      rest = round (settling under_way.lines done);
      more = under_way.lines;
      answered = under_way.answered;
      shows = under_way.shows;
      leads = settling_leads under_way.border new under_way.lines done (commits_of under_way.border now ready new under_way.lines done under_way.waits tried commits);
      ends = ends;
      is = under_way.is;
    }

    pub stopped_cut : (ready : Waiting S G) (was_cut : Bool → Type 0) (done : Result (Unit {0}) Errno) (status : Status) → HasTried now ready → CommitsAll ready new done → was_cut true → EndsCut a b status → HasStopped d first new o b was_cut dialog status
    stopped_cut ready was_cut done status tried commits is ends = stopped_settling ready was_cut done status tried commits (cut_shown was_cut (round (settling under_way.lines done)) a b status is ends)

    pub stopped_shown : (ready : Waiting S G) (was_cut : Bool → Type 0) (done : Result (Unit {0}) Errno) (is_lost : Bool) (status : Status) → HasTried now ready → CommitsAll ready new done → ((ls : Dialog) → (if is_lost then said_lost ls else said ls) ≡ said_behind done ls)
        → ShowsKept under_way.lines is_lost a b kept' (Err status) → HasStopped d first new o b was_cut dialog status
    stopped_shown ready was_cut done is_lost status tried commits is ends =
        stopped_settling ready was_cut done status tried commits (kept_shown was_cut (round (settling under_way.lines done)) under_way.lines is_lost kept' a b status (is under_way.lines ∙ settling_told under_way.lines done) ends)

    -- ---- a line more, which waits

    pub line_waits : (line : List ℕ) (step : Option (Command × Reply)) (promised' : Bool) → promised ≡ false → promised' ≡ promises step → Waits now new step → AddsLine kept kept' line step
        → IsUnderWay d first new o a kept' (dialog ++ (line, step) ∷ []) promised'
    line_waits line step promised' off is one adds = record {
      rounds = under_way.rounds;
      border = under_way.border;
      lines = under_way.lines ++ (line, step) ∷ [];
      answered = under_way.answered;
      waits = waits_more under_way.border now new under_way.lines line step under_way.waits one;
      owes = kept_more kept kept' under_way.lines line step under_way.owes adds;
      shows = under_way.shows;
      is = sym (append_assoc (dialog_of under_way.rounds) under_way.lines ((line, step) ∷ [])) ∙ ap (λ (l : Dialog). l ++ (line, step) ∷ []) under_way.is;
      none = none_more d promised' under_way.lines line step is (subst (λ (p : Bool). PromisesNone d p under_way.lines) off under_way.none);
    }

    -- no memory for its reply
    pub stopped_waiting : (was_cut : Bool → Type 0) (line : List ℕ) (step : Option (Command × Reply)) → Waits now new step → HasStopped d first new o a was_cut dialog NoMemory
    stopped_waiting was_cut line step one = record {
      rounds = under_way.rounds;
      mid = under_way.border;
      shown = a;
      rest = lines (under_way.lines ++ (line, step) ∷ []);
      more = under_way.lines;
      answered = under_way.answered;
      shows = under_way.shows;
      leads = waits_more under_way.border now new under_way.lines line step under_way.waits one;
      ends = appends_none a;
      is = under_way.is;
    }

    -- no memory for the line's command
    pub stopped_here : (was_cut : Bool → Type 0) → HasStopped d first now o a was_cut dialog NoMemory
    stopped_here was_cut = record {
      rounds = under_way.rounds;
      mid = under_way.border;
      shown = a;
      rest = lines under_way.lines;
      more = under_way.lines;
      answered = under_way.answered;
      shows = under_way.shows;
      leads = under_way.waits;
      ends = appends_none a;
      is = under_way.is;
    }

  -- a line that is no command
  module _ (now : Waiting S G) (a : Option (List ℕ)) (kept kept' : Kept) (dialog : Dialog) (under_way : IsUnderWay d first now o a kept dialog false) where
    pub nothing_done : (was_cut : Bool → Type 0) (line : List ℕ) (result : Result Done Status) → LineComesTo line None → DoesNothing kept kept' line result
        → MatchResult result (λ did. GoesOn d first now o a kept' dialog line did.is_promise did.is_refused) (HasStopped d first now o a was_cut dialog)
    nothing_done was_cut line (Ok did) comes (adds, refused, promise) = record {
      step = None;
      comes = comes;
      under_way = line_waits now now a a kept kept' dialog false under_way line None did.is_promise refl promise refl adds;
      refused = refused;
    }
    nothing_done was_cut line (Err status) comes is = subst (λ (x : Status). HasStopped d first now o a was_cut dialog x) (sym is) (stopped_here now now a a kept kept' dialog false under_way was_cut)

  -- ---- behind a commit

  module _ (now : Waiting S G) (a : Option (List ℕ)) (kept : Kept) (was_cut : Bool → Type 0) (dialog : Dialog) (done : Result (Unit {0}) Errno) (at : IsSettled d first now o a kept was_cut dialog done) where
    pub settled_answers : AreAnswered d first now (at.rounds ++ settling at.lines done ∷ [])
    settled_answers = answered_more d first at.border now at.rounds (settling at.lines done) at.answered (settling_leads at.border now at.lines done at.commits)

    pub settled_shows : Appends o a (told (at.rounds ++ settling at.lines done ∷ []))
    settled_shows = subst (λ (l : List ℕ). Appends o a l) (ap (λ (l : List ℕ). told at.rounds ++ l) (settling_told at.lines done) ∙ sym (told_more at.rounds (settling at.lines done))) at.shows

    pub settled_is : dialog_of (at.rounds ++ settling at.lines done ∷ []) ≡ dialog
    settled_is = dialog_more at.rounds (settling at.lines done) ∙ ap (λ (l : Dialog). dialog_of at.rounds ++ l) (settling_lines at.lines done) ∙ at.is

    pub settled_goes_on : IsUnderWay d first now o a kept dialog false
    settled_goes_on = record {
      rounds = at.rounds ++ settling at.lines done ∷ [];
      border = now;
      lines = [];
      answered = settled_answers;
      waits = refl;
      owes = at.owes;
      shows = settled_shows;
      is = append-nil (dialog_of (at.rounds ++ settling at.lines done ∷ [])) ∙ settled_is;
      none = none_at_all d;
    }

    -- one command alone behind it isn't shown whole
    pub stopped_alone : (new : Waiting S G) (b : Option (List ℕ)) (cut_now : Bool → Type 0) (command : Command) (reply : Reply) (status : Status) → LeadsUnanswered d now new (single command reply) → EndsShown cut_now (single command reply) a b status
        → HasStopped d first new o b cut_now dialog status
    stopped_alone new b cut_now command reply status leads ends = record {
      rounds = at.rounds ++ settling at.lines done ∷ [];
      mid = now;
      shown = a;
      rest = single command reply;
      more = [];
      answered = settled_answers;
      shows = settled_shows;
      leads = leads;
      ends = ends;
      is = append-nil (dialog_of (at.rounds ++ settling at.lines done ∷ [])) ∙ settled_is;
    }

  -- a command behind a commit of what waited, as the commit came to
  module _ (mid new : Waiting S G) (a : Option (List ℕ)) (kept : Kept) (was_cut : Bool → Type 0) (dialog : Dialog) (command : Command) (reply : Reply) where
    pub alone_leads : (done : Result (Unit {0}) Errno) (at : IsSettled d first mid o a kept was_cut dialog done) → AnswersBehind done mid new command reply → LeadsUnanswered d mid new (single command reply)
    alone_leads (Ok done) at answers = inl answers
    alone_leads (Err errno) at answers = inr (answers.0, ap is_refusal answers.1, at.commits.commits.fails)

    module _ (b : Option (List ℕ)) (line : List ℕ) (shows : Appends a b (shown reply)) where
      goes : (r : Round) (rounds : List Round) (text : List ℕ) (ls : Dialog) → AreAnswered d first new (rounds ++ r ∷ []) → Appends o a (told rounds ++ text) → told_of r ≡ text ++ shown reply
          → lines_of r ≡ ls ++ (line, Some (command, reply)) ∷ [] → dialog_of rounds ++ ls ≡ dialog → IsKept kept [] → IsUnderWay d first new o b kept (dialog ++ (line, Some (command, reply)) ∷ []) false
      goes r rounds text ls answered before is_told are is owes = record {
        rounds = rounds ++ r ∷ [];
        border = new;
        lines = [];
        answered = answered;
        waits = refl;
        owes = owes;
        shows = subst (λ (l : List ℕ). Appends o b l)
            (append_assoc (told rounds) text (shown reply) ∙ ap (λ (l : List ℕ). told rounds ++ l) (sym is_told) ∙ sym (told_more rounds r))
            (appends_twice o a b (told rounds ++ text) (shown reply) before shows);
        is = append-nil (dialog_of (rounds ++ r ∷ [])) ∙ dialog_more rounds r ∙ ap (λ (l : Dialog). dialog_of rounds ++ l) are
            ∙ sym (append_assoc (dialog_of rounds) ls ((line, Some (command, reply)) ∷ [])) ∙ ap (λ (l : Dialog). l ++ (line, Some (command, reply)) ∷ []) is;
        none = none_at_all d;
      }

      pub alone_goes_on : (done : Result (Unit {0}) Errno) (at : IsSettled d first mid o a kept was_cut dialog done) → AnswersBehind done mid new command reply
          → IsUnderWay d first new o b kept (dialog ++ (line, Some (command, reply)) ∷ []) false
      alone_goes_on (Ok tt) at answers =
          let r = does at.lines line command reply in
          goes r at.rounds (said at.lines) at.lines (answered_more d first at.border new at.rounds r at.answered (mid, at.commits, answers)) at.shows refl refl at.is at.owes
      alone_goes_on (Err errno) at answers =
          let r = refuses at.lines line command errno in
          goes r at.rounds (said_behind (Err errno) at.lines) at.lines (answered_more d first at.border new at.rounds r at.answered (subst (λ (w : Waiting S G). Commits at.border w at.lines (Err errno)) (sym answers.0) at.commits)) at.shows
          (ap (λ (x : Reply). said_behind (Err errno) at.lines ++ shown x) (sym answers.1)) (ap (λ (x : Reply). at.lines ++ (line, Some (command, x)) ∷ []) (sym answers.1)) at.is at.owes

-- ---- from line to line

module _ {S : Type 0} {G : Ghosts S} (first now : Waiting S G) (o a b : Option (List ℕ)) (kept kept' : Kept) (dialog : Dialog) (promised : Bool) where
  pub together_open : IsUnderWay Together first now o a kept dialog promised → IsUnderWay Together first now o a kept dialog false
  together_open under_way = record {
    rounds = under_way.rounds;
    border = under_way.border;
    lines = under_way.lines;
    answered = under_way.answered;
    waits = under_way.waits;
    owes = under_way.owes;
    shows = under_way.shows;
    is = under_way.is;
    none = tt;
  }

  module _ (milliseconds bytes : ℕ) (under_way : IsUnderWay (Deferred milliseconds bytes) first now o a kept dialog promised) (off : promised ≡ false) (few : length now.records.batch ≤ bytes) where
    abbrev deferred : Durability
    deferred = Deferred milliseconds bytes

    abbrev leads : LeadsRound deferred under_way.border now (waits under_way.lines)
    leads = (under_way.waits, (under_way.none off, few))

    pub waits_on : ShowsKept under_way.lines false a b kept' (Ok tt) → IsUnderWay deferred first now o b kept' dialog false
    waits_on shows = record {
      rounds = under_way.rounds ++ waits under_way.lines ∷ [];
      border = now;
      lines = [];
      answered = answered_more deferred first under_way.border now under_way.rounds (waits under_way.lines) under_way.answered leads;
      waits = refl;
      owes = shows.1;
      shows = subst (λ (l : List ℕ). Appends o b l) (sym (told_more under_way.rounds (waits under_way.lines))) (appends_twice o a b (told under_way.rounds) (said under_way.lines) under_way.shows shows.0);
      is = append-nil (dialog_of (under_way.rounds ++ waits under_way.lines ∷ [])) ∙ dialog_more under_way.rounds (waits under_way.lines) ∙ under_way.is;
      none = none_at_all deferred;
    }

    pub stopped_waiting_on : (was_cut : Bool → Type 0) (status : Status) → ShowsKept under_way.lines false a b kept' (Err status) → HasStopped deferred first now o b was_cut dialog status
    stopped_waiting_on was_cut status shows = record {
      rounds = under_way.rounds;
      mid = under_way.border;
      shown = a;
      rest = round (waits under_way.lines);
      more = under_way.lines;
      answered = under_way.answered;
      shows = under_way.shows;
      leads = leads;
      ends = kept_shown was_cut (round (waits under_way.lines)) under_way.lines false kept' a b status refl shows;
      is = under_way.is;
    }
