-- What a call comes to at the place where a text leads.
use Rattle.std.proofs.Common.{◌≡◌, ℕ, Option, Some, None, IsSome, Ok, refl, sym, ap, subst}
use Rattle.std.proofs.lemmas.Bool.{false≢true}
use Rattle.model.specs.Finding.{IsPlaceAt, at_refusal}
use Rattle.model.specs.Outcomes.{Outcome, leads}
use Rattle.model.specs.Paths.{Name, Path}
use Rattle.model.specs.Resolution.{Resolution, missing, named, refused}
use Rattle.model.specs.Room.{Need, nothing}
use Rattle.model.specs.Trees.{Description, Object, Tree}
use Rattle.model.specs.Volumes.{Volume, object_at, object_of, tree_of}
use Rattle.model.specs.declared.errno.Errno.{Errno}
use Rattle.model.specs.declared.reply.Reply.{Reply}
use Rattle.model.specs.declared.reply.Reply.TheVariants.{Refused}
use Rattle.model.proofs.ObjectLaws.{node_object}
use Rattle.calls.specs.Leading.{LeadsTo}

module _ (v : Volume) (table : ℕ → Option Description) (there : Path → Object → Outcome) (gone : Path → Name → Outcome) where
  abbrev t : Tree
  t = tree_of v table

  -- the search was refused
  pub refused_at : (errno : Errno) (r : Resolution) → IsPlaceAt v (at_refusal errno) r → leads t r there gone (Refused errno) t nothing
  refused_at errno (named p) is = absurd is
  refused_at errno (missing p name) is = absurd is
  refused_at errno (refused other) is = (ap Refused (sym is), refl, refl)

  module _ (n : ℕ) (reply : Reply) (new : Tree) (need : Need) (comes : (p : Path) (o : Object) → object_of n (v n) ≡ Some o → there p o reply new need) where
    by_object : (p : Path) (x : Option Object) → object_of n (v n) ≡ x → IsSome x → (elim x as (λ _. Outcome) [ Some o ↦ there p o | None ↦ λ _ _ _. ⊥ ]) reply new need
    by_object p None is some = absurd (false≢true some)
    by_object p (Some o) is some = comes p o is

    -- an object stands there
    pub there_at : (r : Resolution) → LeadsTo v r (Ok n) → leads t r there gone reply new need
    there_at (named p) (at, some) =
        subst (λ (x : Option Object). (elim x as (λ _. Outcome) [ Some o ↦ there p o | None ↦ λ _ _ _. ⊥ ]) reply new need) (sym (ap (object_at v) at))
        (by_object p (object_of n (v n)) refl (node_object n (v n) some))
    there_at (missing p name) is = absurd is
    there_at (refused errno) is = absurd is
