-- How listings come about, name by name.
use Rattle.std.proofs.Common.{◌≡◌, ◌+◌, ◌^◌, ◌<◌, ◌≤◌, nat_lt, ℕ, ℤ, pos, Bool, true, false, List, [], ◌∷◌, ◌++◌, length, map, take, if◌then◌else◌, Result, Ok, Err, IfOk, refl, sym, ap, subst, ◌∙◌, arith}
use Rattle.std.proofs.lemmas.Bool.{false≢true, le-leb, lt-leb}
use Rattle.file_system.specs.declared.file_system.FileSystem.{Ghosts}
use Rattle.file_system.specs.declared.handle.Handle.{Handle}
use Rattle.fuse.specs.Directory.{ListedValue}
use Rattle.fuse.specs.declared.attributes.Entry.{Entry}
use Rattle.fuse.specs.declared.directory.ListedKind.TheVariants as listed_as
use Rattle.model.specs.declared.entries.Entry.{Entry as Named}
use Rattle.model.specs.declared.errno.Errno.{Errno}
use Rattle.model.specs.declared.errno.Errno.TheVariants as errno
use Rattle.model.specs.declared.limits.TheConstants.{ROOT_NUMBER}
use Rattle.model.specs.declared.reply.Reply.TheVariants as reply
use Rattle.model.specs.declared.reply.Stat.{Stat}
use Rattle.served.proofs.TurnLaws.{came_along, came_done, came_else, came_given, came_gives, came_refused, came_some, came_then, came_then_if, came_nowhere}
use Rattle.served.specs.Known.{Known, seen_of}
use Rattle.served.specs.Listing.{Whose, running, directory_at, dots, ends, entry_at, has_room, inode_in, leads_to, list, listed, lists, lists_along, name_in, names_asked, names_in, shares_cookie, snapshots_in, spelled, tells, tells_name, told_of, untold}
use Rattle.served.specs.Looking.{no_memory, stored_parts}
use Rattle.served.specs.Nodes.{node_within}
use Rattle.served.specs.Turns.{Came, LeadsFrom, Turn, ◌▹◌, asks, either, gives, gives_some, handle_now, with_path}
use Rattle.served.specs.declared.answer.Answer.{Answer}
use Rattle.served.specs.declared.answer.Answer.TheVariants as answer
use Rattle.served.specs.declared.listing.Part.{Part}
use Rattle.served.specs.declared.listing.TheConstants.{BEHIND_PARENT}
use Rattle.served.specs.declared.memory.Snapshot.{Snapshot}

-- what is listed of no names, and of one
abbrev Listing : Type 0
Listing = List ℕ × Bool

listed_none : (part : Part) (had : List ℕ) → ◌≡◌ {A = Listing} (had, true) (listed part [] had)
unfolding listed
listed_none part had = refl

listed_one : (part : Part) (name : ListedValue) (had now : List ℕ) (fits : Bool) → fits ≡ has_room part had untold name → now ≡ (if fits then had ++ spelled part untold name else had)
    → ◌≡◌ {A = Listing} (now, fits) (listed part (name ∷ []) had)
unfolding listed
listed_one part name had now true is so =
    subst (λ (b : Bool). ◌≡◌ {A = Listing} (now, true) (if b then listed part [] (had ++ spelled part untold name) else (had, false))) is (ap (λ (l : List ℕ). let p : Listing = (l, true) in p) so)
listed_one part name had now false is so =
    subst (λ (b : Bool). ◌≡◌ {A = Listing} (now, false) (if b then listed part [] (had ++ spelled part untold name) else (had, false))) is (ap (λ (l : List ℕ). let p : Listing = (l, false) in p) so)

-- a directory's name, behind whose place the part begins, or not
pub directory_behind : (part : Part) (inode place : ℕ) (name had : List ℕ) → place ≤ part.behind → ◌≡◌ {A = Listing} (had, true) (listed part (directory_at part inode place name) had)
directory_behind part inode place name had before =
    subst (λ (b : Bool). ◌≡◌ {A = Listing} (had, true) (listed part (if b then [] else (record { inode = inode; offset = place; kind = listed_as.Directory; name = name }) ∷ []) had)) (sym (le-leb place part.behind before))
    (listed_none part had)

pub directory_told : {E : Type 0} (r : Result Bool E) (part : Part) (inode place : ℕ) (name had now : List ℕ) (entry : Entry) → part.behind < place → entry ≡ untold
    → IfOk r (λ fits. fits ≡ has_room part had entry (record { inode = inode; offset = place; kind = listed_as.Directory; name = name }))
    → IfOk r (λ fits. now ≡ (if fits then had ++ spelled part entry (record { inode = inode; offset = place; kind = listed_as.Directory; name = name }) else had))
    → IfOk r (λ all. ◌≡◌ {A = Listing} (now, all) (listed part (directory_at part inode place name) had))
directory_told (Ok fits) part inode place name had now entry behind is room so =
    let told : ListedValue = record { inode = inode; offset = place; kind = listed_as.Directory; name = name } in
    subst (λ (b : Bool). ◌≡◌ {A = Listing} (now, fits) (listed part (if b then [] else told ∷ []) had)) (sym (lt-leb place part.behind behind))
    (listed_one part told had now fits (room ∙ ap (λ (e : Entry). has_room part had e told) is) (so ∙ ap (λ (e : Entry). if fits then had ++ spelled part e told else had) is))
directory_told (Err e) part inode place name had now entry behind is room so = tt

-- some names, and then others
through_if : (r : Bool) (more whole last : Listing) (had now : List ℕ) → (◌≡◌ {A = Listing} (now, true) more → whole ≡ last) → ◌≡◌ {A = Listing} (now, true) (if r then more else (had, false))
    → (if r then whole else (had, false)) ≡ last
through_if true more whole last had now on is = on is
through_if false more whole last had now on is = absurd (false≢true (ap (λ (p : Listing). p.1) (sym is)))

listed_through : (part : Part) (a b : List ListedValue) (had now : List ℕ) → ◌≡◌ {A = Listing} (now, true) (listed part a had) → listed part (a ++ b) had ≡ listed part b now
unfolding listed
listed_through part [] b had now is = ap (λ (p : Listing). listed part b p.0) (sym is)
listed_through part (x ∷ a) b had now is =
    through_if (has_room part had untold x) (listed part a (had ++ spelled part untold x)) (listed part (a ++ b) (had ++ spelled part untold x)) (listed part b now) had now
    (listed_through part a b (had ++ spelled part untold x) now) is

full_if : (r : Bool) (more whole : Listing) (had now : List ℕ) → (◌≡◌ {A = Listing} (now, false) more → whole ≡ (now, false)) → ◌≡◌ {A = Listing} (now, false) (if r then more else (had, false))
    → (if r then whole else (had, false)) ≡ (now, false)
full_if true more whole had now on is = on is
full_if false more whole had now on is = sym is

listed_full : (part : Part) (a b : List ListedValue) (had now : List ℕ) → ◌≡◌ {A = Listing} (now, false) (listed part a had) → listed part (a ++ b) had ≡ (now, false)
unfolding listed
listed_full part [] b had now is = absurd (false≢true (ap (λ (p : Listing). p.1) is))
listed_full part (x ∷ a) b had now is =
    full_if (has_room part had untold x) (listed part a (had ++ spelled part untold x)) (listed part (a ++ b) (had ++ spelled part untold x)) had now
    (listed_full part a b (had ++ spelled part untold x) now) is

pub not_appended : (part : Part) (a b : List ListedValue) (had now : List ℕ) → ◌≡◌ {A = Listing} (now, false) (listed part a had) → ◌≡◌ {A = Listing} (now, false) (listed part (a ++ b) had)
not_appended part a b had now is = sym (listed_full part a b had now is)

pub appended : {E : Type 0} (r : Result Bool E) (part : Part) (a b : List ListedValue) (had mid now : List ℕ) → ◌≡◌ {A = Listing} (mid, true) (listed part a had)
    → IfOk r (λ all. ◌≡◌ {A = Listing} (now, all) (listed part b mid)) → IfOk r (λ all. ◌≡◌ {A = Listing} (now, all) (listed part (a ++ b) had))
appended (Ok all) part a b had mid now first is = is ∙ sym (listed_through part a b had mid first)
appended (Err e) part a b had mid now first is = tt

-- the snapshots
pub snapshots_none : (part : Part) (snapshots : List Snapshot) (had : List ℕ) → length snapshots ≡ 0 → ◌≡◌ {A = Listing} (had, true) (listed part (snapshots_in part (map seen_of snapshots)) had)
snapshots_none part [] had none = listed_none part had
snapshots_none part (x ∷ snapshots) had none = absurd (omega arith)

-- the first one is told under this number and name
pub record IsFirst (snapshots : List Snapshot) (x : Snapshot) (rest : List Snapshot) (inode id : ℕ) (name : List ℕ) : Type 0 where
  pub first : snapshots ≡ x ∷ rest
  pub number : inode ≡ node_within x.id ROOT_NUMBER
  pub same_id : id ≡ x.id
  pub same_name : name ≡ x.name.items

told_first : (part : Part) (x : Snapshot) (inode id : ℕ) (name had : List ℕ) (p : Listing) → inode ≡ node_within x.id ROOT_NUMBER → id ≡ x.id → name ≡ x.name.items
    → p ≡ listed part (directory_at part inode (id + BEHIND_PARENT + 1) name) had → p ≡ listed part (directory_at part (node_within x.id ROOT_NUMBER) (x.id + BEHIND_PARENT + 1) x.name.items) had
told_first part x inode id name had p number same_id same_name is =
    subst (λ (n : ℕ). p ≡ listed part (directory_at part n (x.id + BEHIND_PARENT + 1) x.name.items) had) number
    (subst (λ (i : ℕ). p ≡ listed part (directory_at part inode (i + BEHIND_PARENT + 1) x.name.items) had) same_id
    (subst (λ (l : List ℕ). p ≡ listed part (directory_at part inode (id + BEHIND_PARENT + 1) l) had) same_name is))

pub snapshots_full : (part : Part) (snapshots : List Snapshot) (x : Snapshot) (rest : List Snapshot) (inode id : ℕ) (name had now : List ℕ) → IsFirst snapshots x rest inode id name
    → ◌≡◌ {A = Listing} (now, false) (listed part (directory_at part inode (id + BEHIND_PARENT + 1) name) had) → ◌≡◌ {A = Listing} (now, false) (listed part (snapshots_in part (map seen_of snapshots)) had)
snapshots_full part snapshots x rest inode id name had now f is =
    subst (λ (l : List Snapshot). ◌≡◌ {A = Listing} (now, false) (listed part (snapshots_in part (map seen_of l)) had)) (sym f.first)
    (not_appended part (directory_at part (node_within x.id ROOT_NUMBER) (x.id + BEHIND_PARENT + 1) x.name.items) (snapshots_in part (map seen_of rest)) had now
    (told_first part x inode id name had (now, false) f.number f.same_id f.same_name is))

pub snapshots_more : {E : Type 0} (r : Result Bool E) (part : Part) (snapshots : List Snapshot) (x : Snapshot) (rest : List Snapshot) (inode id : ℕ) (name had mid now : List ℕ) → IsFirst snapshots x rest inode id name
    → ◌≡◌ {A = Listing} (mid, true) (listed part (directory_at part inode (id + BEHIND_PARENT + 1) name) had)
    → IfOk r (λ all. ◌≡◌ {A = Listing} (now, all) (listed part (snapshots_in part (map seen_of rest)) mid))
    → IfOk r (λ all. ◌≡◌ {A = Listing} (now, all) (listed part (snapshots_in part (map seen_of snapshots)) had))
snapshots_more r part snapshots x rest inode id name had mid now f is later =
    subst (λ (l : List Snapshot). IfOk r (λ all. ◌≡◌ {A = Listing} (now, all) (listed part (snapshots_in part (map seen_of l)) had))) (sym f.first)
    (appended r part (directory_at part (node_within x.id ROOT_NUMBER) (x.id + BEHIND_PARENT + 1) x.name.items) (snapshots_in part (map seen_of rest)) had mid now
    (told_first part x inode id name had (mid, true) f.number f.same_id f.same_name is) later)

module _ {S : Type 0} (G : Ghosts S) where
  -- what a name leads to
  pub leads_running : (old new : S) (k : Known) (stat : Stat) (text : List ℕ) (parts : ℕ) (handle : Handle) (given : Entry) → LeadsFrom stat.number [] text → Came G old new (stored_parts text stat) parts
      → Came G new new (handle_now stat.number) handle → given ≡ entry_at k stat parts handle → Came G old new (leads_to k running stat) (Ok given)
  leads_running old new k stat text parts handle given leads stored has is =
      came_along G old new {R = Result Entry Errno} (Err errno.ENOMEM) stat.number [] text
      (λ (path : List ℕ). stored_parts path stat ▹ (λ (parts : ℕ). handle_now stat.number ▹ (λ (handle : Handle). gives {R = Result Entry Errno} (Ok (entry_at k stat parts handle))))) (Ok given) leads
      (came_then G old new new (stored_parts text stat) (λ (parts : ℕ). handle_now stat.number ▹ (λ (handle : Handle). gives {R = Result Entry Errno} (Ok (entry_at k stat parts handle)))) parts (Ok given) stored
      (came_then G new new new (handle_now stat.number) (λ (handle : Handle). gives {R = Result Entry Errno} (Ok (entry_at k stat parts handle))) handle (Ok given) has
      (came_given G new {R = Result Entry Errno} (Ok (entry_at k stat parts handle)) (Ok given) (ap (λ (e : Entry). let r : Result Entry Errno = Ok e in r) is))))

  named : (old new : S) (part : Part) (whole : ℕ) (had : List ℕ) (name : ListedValue) (rest : List ℕ → Turn Answer) (entry : Entry) (r : Answer) (kept : Bool)
      → Came G old new (either kept (either (has_room part had entry name) (rest (had ++ spelled part entry name)) (gives (ends (take whole had)))) (gives no_memory)) r
      → Came G old new (tells_name part whole had name rest entry) r
  named old new part whole had name rest entry r kept done =
      came_then G old old new (gives_some (λ (b : Bool). Unit {0}))
      (λ (b : Bool). either b (either (has_room part had entry name) (rest (had ++ spelled part entry name)) (gives (ends (take whole had)))) (gives no_memory)) kept r
      (came_some G old (λ (b : Bool). Unit {0}) kept tt) done

  -- names are told
  module _ (k : Known) (whose : Whose) (number : ℕ) (part : Part) where
    abbrev behind : Named → List Named → ℕ → List ℕ → Turn Answer
    behind x rest whole now = tells k whose number part rest (if shares_cookie x rest then whole else length now) now

    abbrev goes : Named → List Named → ℕ → List ℕ → Result Entry Errno → Turn Answer
    goes x rest whole had (Err e) = gives (answer.Refused e)
    goes x rest whole had (Ok entry) = tells_name part whole had (name_in whose x) (behind x rest whole) entry

    pub tells_none : (s : S) (names : List Named) (whole : ℕ) (had given : List ℕ) → length names ≡ 0 → given ≡ had → Came G s s (tells k whose number part names whole had) (answer.Bytes given)
    unfolding tells
    tells_none s [] whole had given none is = came_given G s (answer.Bytes had) (answer.Bytes given) (ap answer.Bytes is)
    tells_none s (x ∷ names) whole had given none is = absurd (omega arith)

    tells_first : (old mid new : S) (x : Named) (rest : List Named) (whole : ℕ) (had : List ℕ) (found : Result Entry Errno) (r : Answer) → Came G old mid (told_of k whose number part x) found
        → Came G mid new (goes x rest whole had found) r → Came G old new (tells k whose number part (x ∷ rest) whole had) r
    unfolding tells
    tells_first old mid new x rest whole had found r told done =
        came_then G old mid new (told_of k whose number part x)
        (λ (found : Result Entry Errno). elim found [
          | Err e ↦ gives (answer.Refused e)
          | Ok entry ↦ tells_name part whole had (name_in whose x) (behind x rest whole) entry
        ]) found r told done

    tells_from : (old mid new : S) (names : List Named) (x : Named) (rest : List Named) (whole : ℕ) (had : List ℕ) (found : Result Entry Errno) (r : Answer) → names ≡ x ∷ rest
        → Came G old mid (told_of k whose number part x) found → Came G mid new (goes x rest whole had found) r → Came G old new (tells k whose number part names whole had) r
    tells_from old mid new names x rest whole had found r first told done =
        subst (λ (l : List Named). Came G old new (tells k whose number part l whole had) r) (sym first) (tells_first old mid new x rest whole had found r told done)

    pub tells_refused : (old new : S) (names : List Named) (x : Named) (rest : List Named) (whole : ℕ) (had : List ℕ) (e : Errno) → names ≡ x ∷ rest → Came G old new (told_of k whose number part x) (Err e)
        → Came G old new (tells k whose number part names whole had) (answer.Refused e)
    tells_refused old new names x rest whole had e first told = tells_from old new new names x rest whole had (Err e) (answer.Refused e) first told (came_gives G new (answer.Refused e))

    pub tells_unkept : (old new : S) (names : List Named) (x : Named) (rest : List Named) (whole : ℕ) (had : List ℕ) (entry : Entry) → names ≡ x ∷ rest → Came G old new (told_of k whose number part x) (Ok entry)
        → Came G old new (tells k whose number part names whole had) no_memory
    tells_unkept old new names x rest whole had entry first told =
        tells_from old new new names x rest whole had (Ok entry) no_memory first told
        (named new new part whole had (name_in whose x) (behind x rest whole) entry no_memory false (came_gives G new no_memory))

    pub tells_full : (old new : S) (names : List Named) (x : Named) (rest : List Named) (whole : ℕ) (had : List ℕ) (entry : Entry) (name : ListedValue) (given : Answer) → names ≡ x ∷ rest
        → Came G old new (told_of k whose number part x) (Ok entry) → name ≡ name_in whose x → has_room part had entry name ≡ false → given ≡ ends (take whole had)
        → Came G old new (tells k whose number part names whole had) given
    tells_full old new names x rest whole had entry name given first told is full so =
        tells_from old new new names x rest whole had (Ok entry) given first told
        (named new new part whole had (name_in whose x) (behind x rest whole) entry given true
        (came_else G new new (has_room part had entry (name_in whose x)) (behind x rest whole (had ++ spelled part entry (name_in whose x))) (gives (ends (take whole had))) given
        (subst (λ (n : ListedValue). has_room part had entry n ≡ false) is full) (came_given G new (ends (take whole had)) given so)))

    pub tells_on : (old mid new : S) (names : List Named) (x : Named) (rest : List Named) (whole : ℕ) (had : List ℕ) (entry : Entry) (name : ListedValue) (now : List ℕ) (ended : ℕ) (r : Answer) → names ≡ x ∷ rest
        → Came G old mid (told_of k whose number part x) (Ok entry) → name ≡ name_in whose x → has_room part had entry name ≡ true → now ≡ had ++ spelled part entry name
        → ended ≡ (if shares_cookie x rest then whole else length now) → Came G mid new (tells k whose number part rest ended now) r → Came G old new (tells k whose number part names whole had) r
    tells_on old mid new names x rest whole had entry name now ended r first told is fits so ends_so done =
        tells_from old mid new names x rest whole had (Ok entry) r first told
        (named mid new part whole had (name_in whose x) (behind x rest whole) entry r true
        (came_then_if G mid new (has_room part had entry (name_in whose x)) (behind x rest whole (had ++ spelled part entry (name_in whose x))) (gives (ends (take whole had))) r
        (subst (λ (n : ListedValue). has_room part had entry n ≡ true) is fits)
        (subst (λ (l : List ℕ). Came G mid new (behind x rest whole l) r) (so ∙ ap (λ (n : ListedValue). had ++ spelled part entry n) is)
        (subst (λ (n : ℕ). Came G mid new (tells k whose number part rest n now) r) ends_so done))))

    -- a part behind `.` and `..`
    pub lists_far : (s : S) (had given : List ℕ) → nat_lt part.behind (2 ^ 63) ≡ false → given ≡ had → Came G s s (lists k whose number part had) (answer.Bytes given)
    unfolding lists
    lists_far s had given far is =
        came_else G s s (nat_lt part.behind (2 ^ 63)) (with_path no_memory number [] (lists_along k whose number part had)) (gives (answer.Bytes had)) (answer.Bytes given) far
        (came_given G s (answer.Bytes had) (answer.Bytes given) (ap answer.Bytes is))

    lists_near : (old new : S) (had : List ℕ) (r : Answer) → nat_lt part.behind (2 ^ 63) ≡ true → Came G old new (with_path no_memory number [] (lists_along k whose number part had)) r
        → Came G old new (lists k whose number part had) r
    unfolding lists
    lists_near old new had r near done =
        came_then_if G old new (nat_lt part.behind (2 ^ 63)) (with_path no_memory number [] (lists_along k whose number part had)) (gives (answer.Bytes had)) r near done

    pub lists_nowhere : (s : S) (had : List ℕ) → nat_lt part.behind (2 ^ 63) ≡ true → Came G s s (lists k whose number part had) no_memory
    lists_nowhere s had near = lists_near s s had no_memory near (came_nowhere G s no_memory number [] (lists_along k whose number part had))

    asked_so : (old new : S) (path : List ℕ) (after : ℤ) (count : ℕ) (found : Result (List Named) Errno) → after ≡ pos part.behind → count ≡ names_asked part
        → Came G old new (asks reply.Entries (names_in whose path after count)) found → Came G old new (asks reply.Entries (names_in whose path (pos part.behind) (names_asked part))) found
    asked_so old new path after count found at many done =
        subst (λ (n : ℕ). Came G old new (asks reply.Entries (names_in whose path (pos part.behind) n)) found) many
        (subst (λ (z : ℤ). Came G old new (asks reply.Entries (names_in whose path z count)) found) at done)

    pub lists_refused : (old new : S) (had path : List ℕ) (after : ℤ) (count : ℕ) (e : Errno) → nat_lt part.behind (2 ^ 63) ≡ true → LeadsFrom number [] path → after ≡ pos part.behind
        → count ≡ names_asked part → Came G old new (asks reply.Entries (names_in whose path after count)) (Err e) → Came G old new (lists k whose number part had) (answer.Refused e)
    lists_refused old new had path after count e near leads at many done =
        lists_near old new had (answer.Refused e) near
        (came_along G old new no_memory number [] path (lists_along k whose number part had) (answer.Refused e) leads
        (came_refused G old new new reply.Entries (names_in whose path (pos part.behind) (names_asked part)) (λ (e : Errno). gives (answer.Refused e))
        (λ (names : List Named). tells k whose number part names (length had) had) e (answer.Refused e) (asked_so old new path after count (Err e) at many done) (came_gives G new (answer.Refused e))))

    pub lists_on : (old mid new : S) (had path : List ℕ) (after : ℤ) (count : ℕ) (names : List Named) (whole : ℕ) (r : Answer) → nat_lt part.behind (2 ^ 63) ≡ true → LeadsFrom number [] path
        → after ≡ pos part.behind → count ≡ names_asked part → Came G old mid (asks reply.Entries (names_in whose path after count)) (Ok names) → whole ≡ length had
        → Came G mid new (tells k whose number part names whole had) r → Came G old new (lists k whose number part had) r
    lists_on old mid new had path after count names whole r near leads at many done is later =
        lists_near old new had r near
        (came_along G old new no_memory number [] path (lists_along k whose number part had) r leads
        (came_done G old mid new reply.Entries (names_in whose path (pos part.behind) (names_asked part)) (λ (e : Errno). gives (answer.Refused e))
        (λ (names : List Named). tells k whose number part names (length had) had) names r (asked_so old mid path after count (Ok names) at many done)
        (subst (λ (n : ℕ). Came G mid new (tells k whose number part names n had) r) is later)))

    begins : (old new : S) (r : Answer)
        → Came G old new (either (listed part (dots part (inode_in whose number)) []).1 (lists k whose number part (listed part (dots part (inode_in whose number)) []).0) (gives (answer.Bytes (listed part (dots part (inode_in whose number)) []).0))) r
        → Came G old new (list k whose number part) r
    begins old new r done =
        came_then G old old new (gives_some (λ (b : Bool). Unit {0}))
        (λ (b : Bool). either b (either (listed part (dots part (inode_in whose number)) []).1 (lists k whose number part (listed part (dots part (inode_in whose number)) []).0) (gives (answer.Bytes (listed part (dots part (inode_in whose number)) []).0))) (gives no_memory))
        true r (came_some G old (λ (b : Bool). Unit {0}) true tt) done

    pub list_all : (old new : S) (had : List ℕ) (r : Answer) → ◌≡◌ {A = Listing} (had, true) (listed part (dots part (inode_in whose number)) []) → Came G old new (lists k whose number part had) r
        → Came G old new (list k whose number part) r
    list_all old new had r is done =
        begins old new r
        (came_then_if G old new (listed part (dots part (inode_in whose number)) []).1 (lists k whose number part (listed part (dots part (inode_in whose number)) []).0) (gives (answer.Bytes (listed part (dots part (inode_in whose number)) []).0)) r
        (ap (λ (p : Listing). p.1) (sym is)) (subst (λ (l : List ℕ). Came G old new (lists k whose number part l) r) (ap (λ (p : Listing). p.0) is) done))

    pub list_dots : (s : S) (had given : List ℕ) → ◌≡◌ {A = Listing} (had, false) (listed part (dots part (inode_in whose number)) []) → given ≡ had → Came G s s (list k whose number part) (answer.Bytes given)
    list_dots s had given is so =
        begins s s (answer.Bytes given)
        (came_else G s s (listed part (dots part (inode_in whose number)) []).1 (lists k whose number part (listed part (dots part (inode_in whose number)) []).0) (gives (answer.Bytes (listed part (dots part (inode_in whose number)) []).0)) (answer.Bytes given)
        (ap (λ (p : Listing). p.1) (sym is))
        (came_given G s (answer.Bytes (listed part (dots part (inode_in whose number)) []).0) (answer.Bytes given) (ap answer.Bytes (so ∙ ap (λ (p : Listing). p.0) is))))
