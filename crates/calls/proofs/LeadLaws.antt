-- What stands where a path leads, by what was found in a volume.
use Rattle.std.proofs.Common.{◌≡◌, ◌≢◌, inl, inr, ℕ, Bool, true, false, List, [], ◌∷◌, ◌++◌, length, Option, Some, None, IsSome, Result, Ok, Err, refl, sym, ap, subst, ◌∙◌, arith}
use Rattle.std.proofs.lemmas.Bool.{false≢true}
use Rattle.std.proofs.lemmas.List.{take_all}
use Rattle.model.specs.declared.limits.Limits.{Limits}
use Rattle.model.specs.Finding.{IsPlaceAt, Trails, at_directory, at_entry, at_missing, at_refusal, here}
use Rattle.model.specs.Outcomes.{Outcome, either, goes_along, goes_to, leads, leads_from, leads_to, refuses, tested, with_number}
use Rattle.model.specs.Paths.{Name, Path, Tests, first_refusal, is_empty, parts_behind, start_number}
use Rattle.model.specs.Resolution.{Resolution, missing, named, refused, resolve}
use Rattle.model.specs.Room.{Need, nothing}
use Rattle.model.specs.Trees.{Description, Object, Tree, directory, file, is_directory, symlink}
use Rattle.model.specs.Volumes.{IsVolume, Node, Volume, directory_node, enter, entries, file_node, link_node, number_at, object_at, object_of, tree_of}
use Rattle.model.specs.declared.errno.Errno.{Errno}
use Rattle.model.specs.declared.errno.Errno.TheVariants.{ELOOP, ENOENT, ENOTDIR, ESTALE}
use Rattle.model.specs.declared.reply.Reply.{Reply}
use Rattle.model.specs.declared.reply.Reply.TheVariants.{Refused}
use Rattle.model.proofs.LooseLemmas.{some_same}
use Rattle.model.proofs.VolumeLemmas.{ends, last_step, directory_some}
use Rattle.model.proofs.WalkLemmas.{number_at-push}
use Rattle.paths.specs.declared.lookup.Found.{Found}
use Rattle.paths.specs.declared.lookup.Found.TheVariants as found
use Rattle.paths.specs.Starts.{IsAlone, LeadsFrom, Reaches}
use Rattle.paths.specs.Steps.{found_in}
use Rattle.calls.specs.Leading.{IsFoundAs, IsLed, LeadsAlong, LeadsTo}
use Rattle.calls.proofs.TestedLaws.{tested_none, tested_some}
use Rattle.model.proofs.ObjectLaws.{node_object}

-- ---- numbers at paths

-- the number at the path of a trail
pub trail_end : (v : Volume) (p : Path) (trail : List ℕ) → Trails (entries v) p trail → number_at (entries v) p ≡ Some (here trail)
trail_end v p trail trails =
    ap (number_at (entries v)) (sym (take_all (length p) p (omega arith))) ∙ trails.each (length p) (omega arith)
    ∙ ap (λ k. Some (here k)) (take_all (length p) trail (omega (arith, trails.size)))

-- the number at a name of a directory at a path
pub entry_from : (v : Volume) (p : Path) (d : ℕ) (x : Name) (to : Option ℕ) → number_at (entries v) p ≡ Some d → entries v d x ≡ to → number_at (entries v) (p ++ x ∷ []) ≡ to
entry_from v p d x to at is = number_at-push (entries v) p x ∙ ap (λ (o : Option ℕ). enter (entries v) o x) at ∙ is

module _ (limits : Limits) (v : Volume) (volume : IsVolume limits v) where
  -- what a path leads to is there
  pub some_at : (p : Path) (n : ℕ) → number_at (entries v) p ≡ Some n → IsSome (v n)
  some_at p n at =
      elim (ends p) [
        | inl e ↦
            let same : 3 ≡ n = some_same (sym (ap (number_at (entries v)) e) ∙ at) in
            subst (λ (k : ℕ). IsSome (v k)) same (directory_some (v 3) volume.graph.naming.root)
        | inr (u, x, e) ↦
            let last = last_step (entries v) u x n (sym (ap (number_at (entries v)) e) ∙ at) in
            volume.graph.naming.used last.0 n x last.2
      ]

  pub leads_directory : (trail : List ℕ) (r : Resolution) → IsPlaceAt v (at_directory trail) r → LeadsTo v r (Ok (here trail))
  leads_directory trail (named p) is = (is, some_at p (here trail) is)
  leads_directory trail (missing p name) is = absurd is
  leads_directory trail (refused errno) is = absurd is

  pub leads_entry : (trail : List ℕ) (x : Name) (n : ℕ) (r : Resolution) → IsPlaceAt v (at_entry trail x n) r → LeadsTo v r (Ok n)
  leads_entry trail x n (named q) (p, at, same, to) =
      (ap (number_at (entries v)) same ∙ entry_from v p (here trail) x (Some n) at to, volume.graph.naming.used (here trail) n x to)
  leads_entry trail x n (missing p name) is = absurd is
  leads_entry trail x n (refused errno) is = absurd is

pub leads_gap : (v : Volume) (trail : List ℕ) (x : Name) (r : Resolution) → IsPlaceAt v (at_missing trail x) r → LeadsTo v r (Err ENOENT)
leads_gap v trail x (named p) is = absurd is
leads_gap v trail x (missing p name) is = refl
leads_gap v trail x (refused errno) is = absurd is

pub leads_refusal : (v : Volume) (errno : Errno) (r : Resolution) → IsPlaceAt v (at_refusal errno) r → LeadsTo v r (Err errno)
leads_refusal v errno (named p) is = absurd is
leads_refusal v errno (missing p name) is = absurd is
leads_refusal v errno (refused other) is = sym is

pub directory_no_link : (f : Found) → f ≡ found.Directory → f ≢ found.Link
directory_no_link f is = λ link. cc

-- it is led behind tests that passed
pub led_by : (tests : Tests) (t : Tree) (v : Volume) (follow : Bool) (text : List ℕ) (found : Result ℕ Errno) → first_refusal tests ≡ None → LeadsAlong t v follow text found
    → IsLed tests t v follow text found
led_by tests t v follow text (Ok n) passed leads = (passed, leads)
led_by tests t v follow text (Err errno) passed leads = inr (passed, leads)

pub along_by : (t : Tree) (v : Volume) (follow : Bool) (text : List ℕ) (r : Resolution) (found : Result ℕ Errno) → Reaches t follow text r → LeadsTo v r found → LeadsAlong t v follow text found
along_by t v follow text r (Ok n) reaches leads = inl (r, reaches, leads)
along_by t v follow text r (Err errno) reaches leads = (r, reaches, leads)

leads_some : (v : Volume) (r : Resolution) (n : ℕ) → LeadsTo v r (Ok n) → IsSome (v n)
leads_some v (named p) n leads = leads.1
leads_some v (missing p name) n leads = absurd leads
leads_some v (refused errno) n leads = absurd leads

-- what stands there has the number
node_some : (n : ℕ) (o : Option Node) (object : Object) → object_of n o ≡ Some object → IsSome o
node_some n None object is = absurd cc
node_some n (Some node) object is = refl

pub led_some : (t : Tree) (v : Volume) (follow : Bool) (text : List ℕ) (n : ℕ) → LeadsAlong t v follow text (Ok n) → IsSome (v n)
led_some t v follow text n (inl (r, reaches, leads)) = leads_some v r n leads
led_some t v follow text n (inr (start, alone)) = node_some n (v n) alone.object alone.here

-- ---- what a call comes to

module _ (t : Tree) (follow : Bool) (text : List ℕ) (there : Path → Object → Outcome) (gone : Path → Name → Outcome) (reply : Reply) (new : Tree) (need : Need) where
  -- from a number that has an object
  from_other : (names : List Name) (object : Object) → is_directory (Some object) ≡ false → is_empty names ≡ false → refuses t ENOTDIR reply new need
      → leads_from t follow names there gone object reply new need
  from_other names (directory n) other some to = absurd (false≢true (sym other))
  from_other names (file n) other some to = subst (λ (b : Bool). either b (there [] (file n)) (refuses t ENOTDIR) reply new need) (sym some) to
  from_other names (symlink n link) other some to =
      subst (λ (b : Bool). either b (either follow (refuses t ELOOP) (there [] (symlink n link))) (refuses t ENOTDIR) reply new need) (sym some) to

  from_link : (names : List Name) (n : ℕ) (link : List ℕ) → is_empty names ≡ true → follow ≡ true → refuses t ELOOP reply new need
      → leads_from t follow names there gone (symlink n link) reply new need
  from_link names n link none follows to =
      subst (λ (b : Bool). either b (either follow (refuses t ELOOP) (there [] (symlink n link))) (refuses t ENOTDIR) reply new need) (sym none)
      (subst (λ (b : Bool). either b (refuses t ELOOP) (there [] (symlink n link)) reply new need) (sym follows) to)

  refused_as : (r : Resolution) (errno : Errno) → r ≡ refused errno → leads t r there gone reply new need → refuses t errno reply new need
  refused_as r errno is to = subst (λ (x : Resolution). leads t x there gone reply new need) is to

  from : (start : Option ℕ) (r : Resolution) → (elim start as (λ _. Type 0) [ None ↦ r ≡ resolve t follow text | Some n ↦ LeadsFrom t follow (parts_behind text) n r ])
      → leads t r there gone reply new need
      → (elim start as (λ _. Outcome) [ None ↦ leads t (resolve t follow text) there gone | Some n ↦ with_number t n (leads_from t follow (parts_behind text) there gone) ]) reply new need
  from None r is to = subst (λ (x : Resolution). leads t x there gone reply new need) is to
  from (Some n) r (inl at) to = inl (directory n, at.object, (at.path, at.stands, subst (λ (x : Resolution). leads t x there gone reply new need) at.is to))
  from (Some n) r (inr (inl at)) to = inl (at.object, at.has, from_other (parts_behind text) at.object at.other at.some (refused_as r ENOTDIR at.is to))
  from (Some n) r (inr (inr (inl at))) to = inl (symlink n at.text, at.has, from_link (parts_behind text) n at.text at.none at.follows (refused_as r ELOOP at.is to))
  from (Some n) r (inr (inr (inr at))) to = inr (at.none, refused_as r ESTALE at.is to)

  -- where it is reached
  pub along_reached : (r : Resolution) → Reaches t follow text r → leads t r there gone reply new need → goes_along t follow text there gone reply new need
  along_reached r reaches to = from (start_number text) r reaches to

  -- by a number alone
  from_alone : (v : Volume) (names : List Name) (n : ℕ) (object : Object) → object_of n (v n) ≡ Some object → is_directory (Some object) ≡ false → is_empty names ≡ true
      → (follow ≡ true → found_in (v n) ≢ found.Link) → there [] object reply new need → leads_from t follow names there gone object reply new need
  from_alone v names n (directory k) here other none unfollowed to = absurd (false≢true (sym other))
  from_alone v names n (file k) here other none unfollowed to = subst (λ (b : Bool). either b (there [] (file k)) (refuses t ENOTDIR) reply new need) (sym none) to
  from_alone v names n (symlink k link) here other none unfollowed to =
      subst (λ (b : Bool). either b (either follow (refuses t ELOOP) (there [] (symlink k link))) (refuses t ENOTDIR) reply new need) (sym none)
      (cond_unfollowed follow (λ follows. unfollowed follows (link_found n (v n) k link here)) to)
    where
      cond_unfollowed : (b : Bool) → (b ≡ true → ⊥) → there [] (symlink k link) reply new need → either b (refuses t ELOOP) (there [] (symlink k link)) reply new need
      cond_unfollowed true not to = absurd (not refl)
      cond_unfollowed false not to = to

      link_found : (n : ℕ) (o : Option Node) (k : ℕ) (link : List ℕ) → object_of n o ≡ Some (symlink k link) → found_in o ≡ found.Link
      link_found n None k link is = absurd cc
      link_found n (Some (directory_node attributes names)) k link is = absurd cc
      link_found n (Some (file_node attributes links bytes)) k link is = absurd cc
      link_found n (Some (link_node attributes text)) k link is = refl

  pub along_alone : (v : Volume) (n : ℕ) → start_number text ≡ Some n → (alone : IsAlone t v follow (parts_behind text) n) → there [] alone.object reply new need
      → goes_along t follow text there gone reply new need
  along_alone v n start alone to =
      subst (λ (o : Option ℕ). (elim o as (λ _. Outcome) [ None ↦ leads t (resolve t follow text) there gone | Some k ↦ with_number t k (leads_from t follow (parts_behind text) there gone) ]) reply new need)
      (sym start) (inl (alone.object, alone.has, from_alone v (parts_behind text) n alone.object alone.here alone.other alone.none alone.unfollowed to))

module _ (v : Volume) (table : ℕ → Option Description) (follow : Bool) (text : List ℕ) (there : Path → Object → Outcome) where
  abbrev t : Tree
  t = tree_of v table

  leads_refused : (r : Resolution) (errno : Errno) → LeadsTo v r (Err errno) → leads_to t r there (Refused errno) t nothing
  leads_refused (named p) errno is = absurd is
  leads_refused (missing p name) errno is = (ap Refused is, refl, refl)
  leads_refused (refused other) errno is = (ap Refused is, refl, refl)

  pub along_refused : (errno : Errno) → LeadsAlong t v follow text (Err errno) → goes_to t follow text there (Refused errno) t nothing
  along_refused errno (r, reaches, leads) = along_reached t follow text there (λ p name. refuses t ENOENT) (Refused errno) t nothing r reaches (leads_refused r errno leads)

  -- what holds of each object that may stand there
  abbrev pub Comes : ℕ → Reply → Tree → Need → Type 0
  Comes n reply new need = (p : Path) (o : Object) → IsFoundAs v n p o → there p o reply new need

  module _ (n : ℕ) (reply : Reply) (new : Tree) (need : Need) (comes : Comes n reply new need) where
    by_object : (p : Path) → number_at (entries v) p ≡ Some n → (o : Option Object) → object_of n (v n) ≡ o → IsSome o
        → (elim o as (λ _. Outcome) [ Some o ↦ there p o | None ↦ λ _ _ _. ⊥ ]) reply new need
    by_object p at None is some = absurd (false≢true some)
    by_object p at (Some o) is some = comes p o (record { here = is; at = λ directory. at })

    leads_there : (r : Resolution) → LeadsTo v r (Ok n) → leads_to t r there reply new need
    leads_there (named p) (at, some) =
        subst (λ (o : Option Object). (elim o as (λ _. Outcome) [ Some o ↦ there p o | None ↦ λ _ _ _. ⊥ ]) reply new need) (sym (ap (object_at v) at))
        (by_object p at (object_of n (v n)) refl (node_object n (v n) some))
    leads_there (missing p name) is = absurd is
    leads_there (refused errno) is = absurd is

    pub along_there : LeadsAlong t v follow text (Ok n) → goes_to t follow text there reply new need
    along_there (inl (r, reaches, leads)) = along_reached t follow text there (λ p name. refuses t ENOENT) reply new need r reaches (leads_there r leads)
    along_there (inr (start, alone)) =
        along_alone t follow text there (λ p name. refuses t ENOENT) reply new need v n start alone
        (comes [] alone.object (record { here = alone.here; at = λ is. absurd (false≢true (sym alone.other ∙ is)) }))

    pub led_there : (tests : Tests) → IsLed tests t v follow text (Ok n) → tested t tests (goes_to t follow text there) reply new need
    led_there tests led = tested_none t tests (goes_to t follow text there) reply new need led.0 (along_there led.1)

  pub led_refused : (tests : Tests) (errno : Errno) → IsLed tests t v follow text (Err errno) → tested t tests (goes_to t follow text there) (Refused errno) t nothing
  led_refused tests errno (inl is) = tested_some t tests (goes_to t follow text there) errno is
  led_refused tests errno (inr (passed, leads)) = tested_none t tests (goes_to t follow text there) (Refused errno) t nothing passed (along_refused errno leads)
