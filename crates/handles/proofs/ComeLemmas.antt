-- Where the numbers in use behind a call come from: they were in use, or they are such as the call
-- may give.
use Rattle.std.proofs.Common.{◌≡◌, ◌⊎◌, inl, inr, ℕ, List, [], ◌∷◌, ◌++◌, length, Bool, true, false, Option, Some, None, refl, sym, ap, subst, ◌∙◌}
use Rattle.std.specs.Prelude.{◌==◌, nat_le}
use Rattle.std.proofs.lemmas.Bool.{cond_both}
use Rattle.model.specs.declared.limits.Limits.{Limits}
use Rattle.model.specs.declared.errno.Errno.{Errno}
use Rattle.model.specs.declared.errno.Errno.TheVariants.{ENOENT, ENOTDIR, ELOOP, EBADF, DIRFULL, NONUMBER, ESTALE}
use Rattle.model.specs.declared.reply.Reply.{Reply}
use Rattle.model.specs.declared.reply.Reply.TheVariants as reply
use Rattle.model.specs.Paths.{Name, Path, Tests, first_refusal, behind, is_empty, parts_behind, path_eq, start_number}
use Rattle.model.specs.Trees.{Tree, Object, directory, symlink, file, Description, IsUsed, number_of_object}
use Rattle.model.specs.Edits.{contents, marked, resized, relocate, with_object, without_object, with_bytes, with_descriptor, moved, IsSwept}
use Rattle.model.specs.Touches.{Touches, touches_object}
use Rattle.model.specs.declared.attributes.Touch.TheVariants.{Data}
use Rattle.model.specs.declared.time.Time.{Time}
use Rattle.model.specs.Resolution.{Resolution, named, missing, refused, resolve}
use Rattle.model.specs.Room.{Need}
use Rattle.model.specs.Outcomes.{Outcome, answers, refuses, changes, changes_swept, tested, either, leads, leads_from, goes_along, goes_to, with_number, with_names, with_place, IsFresh, with_fresh, with_links, described}
use Rattle.model.specs.Changing as changing
use Rattle.model.specs.Descriptors as descriptors
use Rattle.model.proofs.MarkLemmas.{marked_used}
use Rattle.model.proofs.OptionLaws.{none_some, some_same}

-- a tree with the same objects and descriptors uses the same numbers
swept_used : (old new : Tree) → IsSwept old new → (n : ℕ) → IsUsed new n → IsUsed old n
swept_used old new swept n (inl (p, o, is, same)) = inl (p, o, sym (ap (λ f. f p) swept.objects) ∙ is, same)
swept_used old new swept n (inr (d, f, is, same)) = inr (d, f, sym (ap (λ g. g d) swept.descriptors) ∙ is, same)

module _ (t : Tree) (Given : ℕ → Type 0) where
  -- a number was in use, or it is given
  abbrev pub Comes : ℕ → Type 0
  Comes n = IsUsed t n ⊎ Given n

  -- so is each that a tree uses
  abbrev pub AllCome : Tree → Type 0
  AllCome u = (n : ℕ) → IsUsed u n → Comes n

  -- and each in use behind an outcome
  abbrev pub GivesOnly : Outcome → Type 0
  GivesOnly outcome = (answer : Reply) (new : Tree) (need : Need) → outcome answer new need → AllCome new

  -- trees

  come_from : (u : Tree) → ((p : Path) (o : Object) → u.objects p ≡ Some o → Comes (number_of_object o)) → ((d : ℕ) (f : Description) → u.descriptors d ≡ Some f → Comes f.number) → AllCome u
  come_from u at_path opened n (inl (p, o, is, same)) = subst Comes same (at_path p o is)
  come_from u at_path opened n (inr (d, f, is, same)) = subst Comes same (opened d f is)

  stood : (p : Path) (o : Object) → t.objects p ≡ Some o → Comes (number_of_object o)
  stood p o is = inl (inl (p, o, is, refl))

  was_open : (d : ℕ) (f : Description) → t.descriptors d ≡ Some f → Comes f.number
  was_open d f is = inl (inr (d, f, is, refl))

  pub come_placed : (p : Path) (o : Object) → Comes (number_of_object o) → AllCome (with_object p o t)
  come_placed p o comes =
      come_from (with_object p o t) (λ q r is.
      cond_both (path_eq q p) (Some o) (t.objects q) (λ x. x ≡ Some r → Comes (number_of_object r)) (λ e same. subst (λ x. Comes (number_of_object x)) (some_same same) comes) (λ e same. stood q r same) is)
      was_open

  pub come_taken : (p : Path) → AllCome (without_object p t)
  come_taken p =
      come_from (without_object p t) (λ q r is.
      cond_both (path_eq q p) None (t.objects q) (λ x. x ≡ Some r → Comes (number_of_object r)) (λ e same. none_some same) (λ e same. stood q r same) is)
      was_open

  pub come_moved : (p q : Path) → AllCome (moved p q t)
  come_moved p q = come_from (moved p q t) (λ r o is. from (behind q r) (behind p r) r o is) was_open
    where
      from : (a b : Option Path) (r : Path) (o : Object) → relocate a b p t.objects r ≡ Some o → Comes (number_of_object o)
      from (Some rest) b r o is = stood (p ++ rest) o is
      from None (Some rest) r o is = none_some is
      from None None r o is = stood r o is

  -- a descriptor is open by a number that comes so, or free, in a tree whose other numbers come so
  pub come_opened : (u : Tree) (d : ℕ) (o : Option Description) → AllCome u → ((f : Description) → o ≡ Some f → Comes f.number) → AllCome (with_descriptor d o u)
  come_opened u d o comes opened =
      come_from (with_descriptor d o u) (λ p r is. comes (number_of_object r) (inl (p, r, is, refl))) (λ k g is.
      cond_both (k == d) o (u.descriptors k) (λ x. x ≡ Some g → Comes g.number) (λ e same. opened g same) (λ e same. comes g.number (inr (k, g, same, refl))) is)

  pub come_same : AllCome t
  come_same n used = inl used

  pub come_moved_offset : (u : Tree) (fd : ℕ) (f : Description) (offset : ℕ) → AllCome u → t.descriptors fd ≡ Some f → AllCome (descriptors.with_offset fd f offset u)
  come_moved_offset u fd f offset comes at_fd = come_opened u fd (Some (record f { offset = offset })) comes (λ g same. subst (λ x. Comes x.number) (some_same same) (was_open fd f at_fd))

  -- a tree whose objects are touched uses the same numbers
  pub come_marked : (now : Option Time) (touches : Touches) (u : Tree) → AllCome u → AllCome (marked now touches u)
  come_marked now touches u comes n used = comes n (marked_used now touches u n used)

  pub come_resized : (now : Option Time) (n size : ℕ) → AllCome (changing.truncated_to now n size t)
  come_resized now n size =
      cond_both (changing.is_idle_size now n size t) t (marked now (touches_object Data n) (with_bytes n (resized size (contents t n)) t)) AllCome (λ e. come_same)
      (λ e. come_marked now (touches_object Data n) (with_bytes n (resized size (contents t n)) t) come_same)

  -- the steps of a call

  pub gives_same : (r : Reply) → GivesOnly (answers t r)
  gives_same r answer new need done n used = inl (subst (λ u. IsUsed u n) done.1 used)

  pub gives_refused : (e : Errno) → GivesOnly (refuses t e)
  gives_refused e = gives_same (reply.Refused e)

  pub gives_changed : (r : Reply) (u : Tree) (m : Need) → AllCome u → GivesOnly (changes r u m)
  gives_changed r u m comes answer new need done n used = comes n (subst (λ u. IsUsed u n) done.1 used)

  pub gives_swept : (r : Reply) (u : Tree) (m : Need) → AllCome u → GivesOnly (changes_swept r u m)
  gives_swept r u m comes answer new need done n used = comes n (swept_used u new done.1 n used)

  pub gives_tested : (tests : Tests) (rest : Outcome) → (first_refusal tests ≡ None → GivesOnly rest) → GivesOnly (tested t tests rest)
  gives_tested tests rest gives =
      elim (first_refusal tests) as (λ o. first_refusal tests ≡ o → GivesOnly (elim o as (λ _. Outcome) [ Some errno ↦ refuses t errno | None ↦ rest ])) [
        | Some errno ↦ λ e. gives_refused errno
        | None ↦ λ e. gives e
      ] refl

  pub gives_either : (b : Bool) (x y : Outcome) → GivesOnly x → GivesOnly y → GivesOnly (either b x y)
  gives_either true x y one other = one
  gives_either false x y one other = other

  gives_leads : (r : Resolution) (there : Path → Object → Outcome) (gone : Path → Name → Outcome) → ((p : Path) (o : Object) → Comes (number_of_object o) → GivesOnly (there p o)) → ((p : Path) (name : Name) → GivesOnly (gone p name)) → GivesOnly (leads t r there gone)
  gives_leads (refused errno) there gone at_there at_gone = gives_refused errno
  gives_leads (missing p name) there gone at_there at_gone = at_gone p name
  gives_leads (named p) there gone at_there at_gone =
      elim (t.objects p) as (λ o. t.objects p ≡ o → GivesOnly (elim o as (λ _. Outcome) [ Some o ↦ there p o | None ↦ λ _ _ _. ⊥ ])) [
        | Some o ↦ λ e. at_there p o (stood p o e)
        | None ↦ λ e answer new need never. absurd never
      ] refl

  pub gives_names : (p : Path) (rest : List Name → Outcome) → ((names : List Name) → GivesOnly (rest names)) → GivesOnly (with_names t p rest)
  gives_names p rest gives answer new need (names, listing, done) = gives names answer new need done

  pub gives_place : (limits : Limits) (p : Path) (rest : Outcome) → GivesOnly rest → GivesOnly (with_place limits t p rest)
  gives_place limits p rest gives = gives_names p _ (λ names. gives_tested ((nat_le limits.directory_names (length names), DIRFULL) ∷ []) rest (λ e. gives))

  pub gives_fresh : (limits : Limits) (rest : ℕ → Outcome) → ((n : ℕ) → IsFresh limits t n → GivesOnly (rest n)) → GivesOnly (with_fresh limits t rest)
  gives_fresh limits rest gives answer new need (None, is, done) = gives_refused NONUMBER answer new need done
  gives_fresh limits rest gives answer new need (Some n, is, done) = gives n is answer new need done

  pub gives_links : (u : Tree) (o : Object) (rest : ℕ → Outcome) → ((n : ℕ) → GivesOnly (rest n)) → GivesOnly (with_links u o rest)
  gives_links u o rest gives answer new need (count, is, done) = gives count answer new need done

  pub gives_never : GivesOnly (λ _ _ _. ⊥)
  gives_never answer new need done = absurd done

  pub gives_described : (fd : ℕ) (rest : Description → Outcome) → ((f : Description) → t.descriptors fd ≡ Some f → GivesOnly (rest f)) → GivesOnly (described t fd rest)
  gives_described fd rest gives =
      elim (t.descriptors fd) as (λ o. t.descriptors fd ≡ o → GivesOnly (elim o as (λ _. Outcome) [ Some f ↦ rest f | None ↦ refuses t EBADF ])) [
        | Some f ↦ λ e. gives f e
        | None ↦ λ e. gives_refused EBADF
      ] refl

  -- by what stands there
  pub gives_by_kind : (o : Object) (a : ℕ → Outcome) (b : ℕ → List ℕ → Outcome) (c : ℕ → Outcome) → ((n : ℕ) → GivesOnly (a n)) → ((n : ℕ) (text : List ℕ) → GivesOnly (b n text)) → ((n : ℕ) → o ≡ file n → GivesOnly (c n)) → GivesOnly (elim o as (λ _. Outcome) [ directory n ↦ a n | symlink n text ↦ b n text | file n ↦ c n ])
  gives_by_kind (directory n) a b c one other third = one n
  gives_by_kind (symlink n text) a b c one other third = other n text
  gives_by_kind (file n) a b c one other third = third n refl

  gives_from : (follow : Bool) (names : List Name) (there : Path → Object → Outcome) (gone : Path → Name → Outcome)
      → ((p : Path) (o : Object) → Comes (number_of_object o) → GivesOnly (there p o)) → ((p : Path) (name : Name) → GivesOnly (gone p name))
      → (o : Object) → Comes (number_of_object o) → GivesOnly (leads_from t follow names there gone o)
  gives_from follow names there gone at_there at_gone (directory k) comes = λ answer new need done. gives_leads _ there gone at_there at_gone answer new need done.2
  gives_from follow names there gone at_there at_gone (symlink k link) comes =
      gives_either (is_empty names) _ _ (gives_either follow _ _ (gives_refused ELOOP) (at_there [] (symlink k link) comes)) (gives_refused ENOTDIR)
  gives_from follow names there gone at_there at_gone (file k) comes =
      gives_either (is_empty names) _ _ (at_there [] (file k) comes) (gives_refused ENOTDIR)

  gives_numbered : (n : ℕ) (rest : Object → Outcome) → ((o : Object) → Comes (number_of_object o) → GivesOnly (rest o)) → GivesOnly (with_number t n rest)
  gives_numbered n rest gives answer new need (inl (o, is, done)) = gives o (stood is.has.0 o is.has.1) answer new need done
  gives_numbered n rest gives answer new need (inr (unused, done)) = gives_refused ESTALE answer new need done

  -- where a text leads
  pub gives_along : (follow : Bool) (text : List ℕ) (there : Path → Object → Outcome) (gone : Path → Name → Outcome)
      → ((p : Path) (o : Object) → Comes (number_of_object o) → GivesOnly (there p o)) → ((p : Path) (name : Name) → GivesOnly (gone p name)) → GivesOnly (goes_along t follow text there gone)
  gives_along follow text there gone at_there at_gone =
      elim (start_number text) as (λ o. GivesOnly (elim o as (λ _. Outcome) [
        | None ↦ leads t (resolve t follow text) there gone
        | Some n ↦ with_number t n (leads_from t follow (parts_behind text) there gone)
      ])) [
        | None ↦ gives_leads (resolve t follow text) there gone at_there at_gone
        | Some n ↦ gives_numbered n _ (gives_from follow (parts_behind text) there gone at_there at_gone)
      ]

  pub gives_at : (tests : Tests) (follow : Bool) (text : List ℕ) (there : Path → Object → Outcome) → ((p : Path) (o : Object) → Comes (number_of_object o) → GivesOnly (there p o)) → GivesOnly (tested t tests (goes_to t follow text there))
  gives_at tests follow text there gives = gives_tested tests _ (λ e. gives_along follow text there (λ p name. refuses t ENOENT) gives (λ p name. gives_refused ENOENT))
