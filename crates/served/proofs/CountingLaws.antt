-- How many steps of turns are counted at most.
use Rattle.std.proofs.Common.{◌≡◌, ◌≤◌, ◌+◌, ◌==◌, ◌&&◌, not, ℕ, zero, suc, ℤ, Bool, true, false, cond, List, [], ◌∷◌, ◌++◌, count_by, Option, Some, None, Result, Ok, Err, refl, sym, ap, subst, arith, ◌∙◌}
use Rattle.std.proofs.lemmas.Bool.{and_left, and_right}
use Rattle.std.proofs.lemmas.List.Sums.{sum_by-append}
use Rattle.file_system.specs.declared.handle.Handle.{Handle}
use Rattle.fuse.specs.declared.forgets.Forget.{Forget}
use Rattle.model.specs.declared.command.Command.{Command}
use Rattle.model.specs.declared.entries.Entry.{Entry as Named}
use Rattle.model.specs.declared.errno.Errno.{Errno}
use Rattle.model.specs.declared.reply.FileType.{FileType}
use Rattle.model.specs.declared.reply.FileType.TheVariants.{Dir, File, Link}
use Rattle.model.specs.declared.reply.Reply.{Reply}
use Rattle.model.specs.declared.reply.Stat.{Stat}
use Rattle.served.specs.Changing.{changes}
use Rattle.served.specs.Files as files
use Rattle.served.specs.Finding as finding
use Rattle.served.specs.Keeping as keeping
use Rattle.served.specs.Known.{Known, Seen}
use Rattle.served.specs.Listing as listing
use Rattle.served.specs.Looking as looking
use Rattle.served.specs.Nodes.{read_node}
use Rattle.served.specs.Setting as setting
use Rattle.served.specs.Snapshots as snapshots
use Rattle.served.specs.Turns.{Step, Turn, ◌▹◌, along, asks, asks_for, either, generations_behind, gives, gives_some, refusal_in, Reads, handle_now, if_memory, with_path}
use Rattle.served.specs.declared.answer.Answer.{Answer}
use Rattle.served.specs.declared.finding.Found.{Found}
use Rattle.served.specs.declared.finding.Found.TheVariants as found
use Rattle.served.specs.declared.listing.Part.{Part}
use Rattle.served.specs.declared.marks.Asker.{Asker}
use Rattle.served.specs.declared.memory.Removed.{Removed}
use Rattle.served.specs.declared.node.Node.{Node}
use Rattle.served.specs.declared.node.Node.TheVariants.{Snapshots, Running, Within}

-- what may change something is counted, unless it is spared
abbrev pub counts : (Step → Bool) → Step → Bool
counts spared step = changes step.asked && not (spared step)

-- so many steps of a turn are counted at most
pub record AtMost (spared : Step → Bool) (n : ℕ) {R : Type 0} (turn : Turn R) : Type 0 where
  pub most : (generations : ℕ → ℕ) (steps : List Step) (given : R) → turn generations steps given → count_by (counts spared) steps ≤ n

pub appended : (counts : Step → Bool) (before behind steps : List Step) → steps ≡ before ++ behind → count_by counts steps ≡ count_by counts before + count_by counts behind
appended counts before behind steps same = ap (count_by counts) same ∙ sum_by-append (λ (step : Step). cond (counts step) 1 0) before behind

pub counted : (b : Bool) → cond b 1 0 ≤ 1
counted true = omega arith
counted false = omega arith

pub uncounted : {b : Bool} → b ≡ false → cond b 1 0 ≤ 0
uncounted is = subst (λ (x : Bool). cond x 1 0 ≤ 0) (sym is) (omega arith)

pub spares : (spared : Step → Bool) (step : Step) → spared step ≡ true → counts spared step ≡ false
spares spared step is = and_right (changes step.asked) (not (spared step)) (ap not is)

either_counted : (b : Bool) → cond b 1 0 + cond b 0 1 ≤ 1
either_counted true = omega arith
either_counted false = omega arith

-- the command that tells names changes nothing
names_look : (whose : listing.Whose) (path : List ℕ) (after : ℤ) (count : ℕ) → changes (listing.names_in whose path after count) ≡ false
names_look listing.running path after count = refl
names_look (listing.within seen marks) path after count = refl

module _ {spared : Step → Bool} where
  none : {n : ℕ} {R : Type 0} {turn : Turn R} → ((generations : ℕ → ℕ) (steps : List Step) (given : R) → turn generations steps given → steps ≡ []) → AtMost spared n turn
  none {n} is = record { most = λ generations steps given did. subst (λ (s : List Step). count_by (counts spared) s ≤ n) (sym (is generations steps given did)) (omega arith) }

  pub in_gives : {n : ℕ} {R : Type 0} {r : R} → AtMost spared n (gives r)
  in_gives = none (λ generations steps given did. did.0)

  pub in_some : {n : ℕ} {R : Type 0} {P : R → Type 0} → AtMost spared n (gives_some P)
  in_some = none (λ generations steps given did. did.0)

  pub in_handle : {n number : ℕ} → AtMost spared n (handle_now number)
  in_handle = none (λ generations steps given did. did.0)

  pub in_more : {m n : ℕ} {R : Type 0} {turn : Turn R} → m ≤ n → AtMost spared m turn → AtMost spared n turn
  in_more more all = record { most = λ generations steps given did. let few = all.most generations steps given did in omega arith }

  pub in_then : {m n p : ℕ} {A B : Type 0} {first : Turn A} {rest : A → Turn B} → m + n ≤ p → AtMost spared m first → ((a : A) → AtMost spared n (rest a)) → AtMost spared p (first ▹ rest)
  in_then fits one others = record {
    most = λ generations steps given (a, before, behind, same, did, then).
        let few = one.most generations before a did in
        let rest = (others a).most (generations_behind generations before) behind given then in
        let all = appended (counts spared) before behind steps same in
        omega arith;
  }

  pub looks_then : {n : ℕ} {A B : Type 0} {first : Turn A} {rest : A → Turn B} → AtMost spared 0 first → ((a : A) → AtMost spared n (rest a)) → AtMost spared n (first ▹ rest)
  looks_then {n} one others = in_then (omega arith) one others

  pub then_looks : {n : ℕ} {A B : Type 0} {first : Turn A} {rest : A → Turn B} → AtMost spared n first → ((a : A) → AtMost spared 0 (rest a)) → AtMost spared n (first ▹ rest)
  then_looks {n} one others = in_then (omega arith) one others

  pub in_either : {n : ℕ} {R : Type 0} {this other : Turn R} (test : Bool) → AtMost spared n this → AtMost spared n other → AtMost spared n (either test this other)
  in_either true holds fails = holds
  in_either false holds fails = fails

  pub in_memory : {n : ℕ} {R : Type 0} {lost done : Turn R} → AtMost spared n lost → AtMost spared n done → AtMost spared n (if_memory lost done)
  unfolding if_memory
  in_memory lost done = looks_then in_some (λ is_had. in_either is_had done lost)

  pub in_option : {n : ℕ} {A R : Type 0} {some : A → Turn R} {none : Turn R} (found : Option A) → ((a : A) → AtMost spared n (some a)) → AtMost spared n none → AtMost spared n (elim found [ Some a ↦ some a | None ↦ none ])
  in_option (Some a) some none = some a
  in_option None some none = none

  pub in_result : {n : ℕ} {A E R : Type 0} {done : A → Turn R} {refused : E → Turn R} (found : Result A E) → ((a : A) → AtMost spared n (done a)) → ((e : E) → AtMost spared n (refused e))
      → AtMost spared n (elim found [ Ok a ↦ done a | Err e ↦ refused e ])
  in_result (Ok a) done refused = done a
  in_result (Err e) done refused = refused e

  pub in_path : {n m : ℕ} {names : List ℕ} {R : Type 0} {wants : R} {rest : List ℕ → Turn R} → ((text : List ℕ) → AtMost spared n (rest text)) → AtMost spared n (with_path wants m names rest)
  in_path {m} {names} all = looks_then (none (λ generations steps given did. walked given generations steps did)) (λ text. in_option text all in_gives)
    where
      walked : (found : Option (List ℕ)) (generations : ℕ → ℕ) (steps : List Step) → along m names generations steps found → steps ≡ []
      walked (Some text) generations steps did = did.0
      walked None generations steps did = did

  -- a command is asked, which is counted so often at most

  pub asked_so : {n : ℕ} {A : Type 0} {tells : A → Reply} {command : Command} → ((step : Step) → step.asked ≡ command → cond (counts spared step) 1 0 ≤ n) → AtMost spared n (asks tells command)
  asked_so {n} fits = record {
    most = λ generations steps given (step, one, asked, reads).
        let few = fits step asked in
        subst (λ (s : List Step). count_by (counts spared) s ≤ n) (sym one) (omega arith);
  }

  pub once : {A : Type 0} {tells : A → Reply} {command : Command} → AtMost spared 1 (asks tells command)
  once = asked_so (λ step asked. counted (counts spared step))

  pub unasked : {A : Type 0} {tells : A → Reply} {command : Command} → changes command ≡ false → AtMost spared 0 (asks tells command)
  unasked is = asked_so (λ step asked. uncounted (and_left (changes step.asked) (not (spared step)) (ap changes asked ∙ is)))

  pub looks_for : {n : ℕ} {A R : Type 0} {tells : A → Reply} {command : Command} {refused : Errno → Turn R} {done : A → Turn R} → changes command ≡ false → ((e : Errno) → AtMost spared n (refused e)) → ((a : A) → AtMost spared n (done a))
      → AtMost spared n (asks_for tells command refused done)
  looks_for is refused done = looks_then (unasked is) (λ found. in_result found done refused)

  pub changes_once : {A R : Type 0} {tells : A → Reply} {command : Command} {refused : Errno → Turn R} {done : A → Turn R} → ((e : Errno) → AtMost spared 0 (refused e)) → ((a : A) → AtMost spared 0 (done a)) → AtMost spared 1 (asks_for tells command refused done)
  changes_once refused done = then_looks once (λ found. in_result found done refused)

  -- behind a reply nothing more is counted, and behind a refusal what makes one at most with the command
  pub changes_or : {A R : Type 0} {tells : A → Reply} {command : Command} {refused : Errno → Turn R} {done : A → Turn R} → ((step : Step) (e : Errno) → e ≡ refusal_in step.answer → AtMost spared (cond (counts spared step) 0 1) (refused e))
      → ((a : A) → AtMost spared 0 (done a)) → AtMost spared 1 (asks_for tells command refused done)
  changes_or {A} {tells} {refused} {done} by_refusal by_reply = record {
    most = λ generations steps given (found, before, behind, same, (step, one, asked, reads), then).
        let rest = (behind_step step found reads).most (generations_behind generations before) behind given then in
        let all = appended (counts spared) (step ∷ []) behind steps (same ∙ ap (λ (s : List Step). s ++ behind) one) in
        let few = either_counted (counts spared step) in
        omega arith;
  }
    where
      behind_step : (step : Step) (found : Result A Errno) → Reads tells step.answer found → AtMost spared (cond (counts spared step) 0 1) (elim found [ Ok a ↦ done a | Err e ↦ refused e ])
      behind_step step (Ok a) reads = in_more (omega arith) (by_reply a)
      behind_step step (Err e) reads = by_refusal step e reads.1

  pub in_looks : {n : ℕ} {k : Known} {turn : Turn Answer} → AtMost spared n turn → AtMost spared n (setting.looks k turn)
  in_looks all = then_looks all (λ a. in_gives)

  -- what looks, and what is kept

  in_kinds : {R : Type 0} {file link directory : Turn R} (kind : FileType) → AtMost spared 0 file → AtMost spared 0 link → AtMost spared 0 directory → AtMost spared 0 (elim kind [ File ↦ file | Link ↦ link | Dir ↦ directory ])
  in_kinds File file link directory = file
  in_kinds Link file link directory = link
  in_kinds Dir file link directory = directory

  pub lets_go : (held : Option ℕ) → AtMost spared 0 (keeping.lets_go held)
  lets_go None = in_gives
  lets_go (Some fd) = looks_then (unasked refl) (λ done. in_gives)

  pub remembers : (k : Known) (asker : Asker) (handle : Handle) (path : List ℕ) (stat : Stat) → AtMost spared 0 (keeping.remembers k asker handle path stat)
  remembers k asker handle path stat =
      looks_then (in_kinds stat.kind (looks_for refl (λ e. in_gives) (λ fd. in_gives)) (looks_for refl (λ e. in_gives) (λ text. in_gives)) in_gives)
      (λ what. in_memory (looks_then (lets_go (keeping.descriptor_of what)) (λ d. in_gives)) in_gives)

  pub forgets : (k : Known) (node : ℕ) (removed : Option Removed) → AtMost spared 0 (keeping.forgets_removed k node removed)
  forgets k node None = in_gives
  forgets k node (Some removed) = in_either (removed.opens == 0) (looks_then (lets_go removed.held) (λ d. in_gives)) in_gives

  pub forgets_all : (k : Known) (all : List Forget) → AtMost spared 0 (keeping.forgets_all k all)
  unfolding keeping.forgets_all
  forgets_all k [] = in_gives
  forgets_all k (f ∷ fs) = looks_then (forgets k f.node (k.removed f.node)) (λ known. forgets_all known fs)

  stored_parts : (path : List ℕ) (stat : Stat) → AtMost spared 0 (looking.stored_parts path stat)
  stored_parts path stat = in_either _ in_gives (looks_for refl (λ e. in_gives) (λ x. in_gives))

  pub tell_entry : (k : Known) (path : List ℕ) (stat : Stat) → AtMost spared 0 (looking.tell_entry k path stat)
  tell_entry k path stat = looks_then (stored_parts path stat) (λ parts. looks_then in_handle (λ handle. in_gives))

  pub by_size : (tells : Removed → ℕ → Answer) (removed : Option Removed) → AtMost spared 0 (looking.by_size tells removed)
  by_size tells None = in_gives
  by_size tells (Some removed) =
      looks_then (in_option removed.held (λ fd. looks_for refl (λ e. in_gives) (λ now. in_gives)) in_gives) (λ found. in_result found (λ size. in_gives) (λ e. in_gives))

  pub tell_attributes : (k : Known) (node : ℕ) (handle : Handle) → AtMost spared 0 (looking.tell_attributes k node handle)
  tell_attributes k node handle =
      in_path (λ path. looks_for refl (λ e. in_either _ (by_size _ (k.removed node)) in_gives) (λ stat. looks_then (stored_parts path stat) (λ parts. in_gives)))

  leads_to : (k : Known) (whose : listing.Whose) (stat : Stat) → AtMost spared 0 (listing.leads_to k whose stat)
  leads_to k listing.running stat = in_path (λ path. looks_then (stored_parts path stat) (λ parts. looks_then in_handle (λ handle. in_gives)))
  leads_to k (listing.within seen marks) stat = in_gives

  tells : (k : Known) (whose : listing.Whose) (number : ℕ) (part : Part) (names : List Named) (whole : ℕ) (had : List ℕ) → AtMost spared 0 (listing.tells k whose number part names whole had)
  unfolding listing.tells listing.told_of
  tells k whose number part [] whole had = in_gives
  tells k whose number part (name ∷ names) whole had =
      looks_then (in_either _ (leads_to k whose name.stat) in_gives)
      (λ found. in_result found (λ entry. looks_then in_some (λ kept. in_either kept (in_either _ (tells k whose number part names _ _) in_gives) in_gives)) (λ e. in_gives))

  lists : (k : Known) (whose : listing.Whose) (number : ℕ) (part : Part) (had : List ℕ) → AtMost spared 0 (listing.lists k whose number part had)
  unfolding listing.lists
  lists k whose number part had =
      in_either _ (in_path (λ path. looks_for (names_look whose path _ _) (λ e. in_gives) (λ names. tells k whose number part names _ had))) in_gives

  pub list : (k : Known) (whose : listing.Whose) (number : ℕ) (part : Part) → AtMost spared 0 (listing.list k whose number part)
  list k whose number part = looks_then in_some (λ kept. in_either kept (in_either _ (lists k whose number part _) in_gives) in_gives)

  pub reads : (read : files.Reading) (offset count parts : ℕ) (had : List ℕ) → ((at : ℤ) (n : ℕ) → changes (read at n) ≡ false) → AtMost spared 0 (files.reads read offset count parts had)
  unfolding files.reads
  reads read offset count zero had plain = in_gives
  reads read offset count (suc parts) had plain =
      in_either _ in_gives (looks_for (plain _ _) (λ e. in_gives) (λ part. looks_then in_some (λ kept. in_either kept (in_either _ in_gives (reads read offset count parts _ plain)) in_gives)))

  pub release : (k : Known) (node fd : ℕ) (removed : Option Removed) → AtMost spared 0 (files.release_gone k node fd removed)
  release k node fd None = in_looks (looks_for refl (λ e. in_gives) (λ d. in_gives))
  release k node fd (Some removed) = in_either _ in_gives (in_looks (looks_for refl (λ e. in_gives) (λ d. in_gives)))

  pub look_up_within : (k : Known) (seen : Seen) (parent : ℕ) (name : List ℕ) → AtMost spared 0 (snapshots.look_up_within k seen parent name)
  unfolding snapshots.look_up_within
  look_up_within k seen parent name = in_path (λ path. looks_for refl (λ e. in_gives) (λ stat. in_gives))

  pub look_up_snapshot : (k : Known) (name : List ℕ) → AtMost spared 0 (snapshots.look_up_snapshot k name)
  unfolding snapshots.look_up_snapshot snapshots.look_up_found
  look_up_snapshot k name = looks_then in_some root
    where
      root : (seen : Option Seen) → AtMost spared 0 (snapshots.look_up_found k seen)
      root (Some seen) = look_up_within k seen _ []
      root None = in_gives

  pub finds : (node : ℕ) → AtMost spared 0 (finding.finds node)
  finds node = leads (read_node node)
    where
      leads : (to : Node) → AtMost spared 0 (elim to as (λ x. Turn Found) [ Snapshots ↦ gives found.Snapshots | Within id n ↦ gives (found.Within id n) | Running told ↦ handle_now told.number ▹ (λ now. gives (finding.still told now)) ])
      leads Snapshots = in_gives
      leads (Within id n) = in_gives
      leads (Running told) = looks_then in_handle (λ now. in_gives)
