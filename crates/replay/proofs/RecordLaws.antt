-- Records read one after the other, and where they lead.
use Rattle.std.proofs.Common.{◌≡◌, ℕ, ◌+◌, ◌<◌, ◌^◌, List, [], ◌∷◌, ◌++◌, length, refl, sym, ap, subst, ◌∙◌, arith, length-append}
use Rattle.std.proofs.lemmas.List.Elements.{All-cons, All-head, All-nil, All-tail}
use Rattle.model.specs.declared.limits.Limits.{Limits}
use Rattle.byteorder.specs.Numbers.{length-bytes_low_first}
use Rattle.byteorder.specs.Endian.{little_bytes}
use Rattle.layout.specs.Log.{record_of, records_of, HoldsBodies, IsClosed}
use Rattle.layout.specs.Record.{Change, IsChange, change_bytes}
use Rattle.model.specs.Records.{applied}
use Rattle.model.specs.Volumes.{Volume}
use Rattle.images.specs.Soundness.{Detail}
use Rattle.oplog.specs.SavedLog.{HoldsLeaving}
use Rattle.replay.specs.Volumes.{AppliesIn, LeadTo, SpellsRecord, bodies_of}
use Rattle.layout.proofs.OpenLaws.{record_once}

head_length : (n : ℕ) → length (1 ∷ little_bytes 4 n) ≡ 5
head_length n = omega (arith, length-bytes_low_first 0 4 n)

-- the records behind an open gate: the first, and those that lead on
pub record Step (detail : Detail) (limits : Limits) (body after : List ℕ) (changes : List Change) (now w : Volume) : Type 0 where
  pub change : Change
  pub more : List Change
  pub are : changes ≡ change ∷ more
  pub spells : SpellsRecord limits.has_attributes body change
  pub applies : AppliesIn detail limits now change
  pub leads : LeadTo detail limits after more (applied change now) w

pub step : (detail : Detail) (limits : Limits) (rest body after : List ℕ) (changes : List Change) (now w : Volume) → length body < 2 ^ 32 → rest ≡ record_of body ++ after
    → LeadTo detail limits rest changes now w → Step detail limits body after changes now w
step detail limits rest body after [] now w short is leads = let e : 0 ∷ leads.held.0 ≡ record_of body ++ after = sym leads.held.1 ∙ is in absurd (cc)
step detail limits rest body after (c ∷ more) now w short is leads =
    let same = record_once body (change_bytes c) after leads.held.0 short leads.held.1 (sym is ∙ leads.held.2) in
    record {
      change = c;
      more = more;
      are = refl;
      spells = record { is = All-head (IsChange limits.has_attributes) c more leads.are; spelled = same.0 };
      applies = leads.replays.0;
      leads = record {
        are = All-tail (IsChange limits.has_attributes) c more leads.are;
        held = subst (λ (l : List ℕ). HoldsBodies l (bodies_of more)) (sym same.1) leads.held.3;
        replays = leads.replays.1;
      };
    }

-- behind a closed gate there are none
pub ends : (detail : Detail) (limits : Limits) (rest : List ℕ) (changes : List Change) (now w : Volume) → IsClosed rest → LeadTo detail limits rest changes now w → (changes ≡ []) × (w ≡ now)
ends detail limits rest [] now w shut leads = (refl, leads.replays)
ends detail limits rest (c ∷ more) now w shut leads = let e : 0 ∷ shut.0 ≡ record_of (change_bytes c) ++ leads.held.0 = sym shut.1 ∙ leads.held.2 in absurd (cc)

-- What is left to be replayed of records that lead to a volume: from the volume that stands now, and so many bytes.
pub record IsLeft (detail : Detail) (limits : Limits) (records rest : List ℕ) (changes : List Change) (now w : Volume) : Type 0 where
  pub more : List Change
  pub leads : LeadTo detail limits rest more now w
  pub length_is : length (records_of (bodies_of more)) + length records ≡ length rest + length (records_of (bodies_of changes))

module _ (detail : Detail) (limits : Limits) (records rest : List ℕ) (changes : List Change) (now w : Volume) (left : IsLeft detail limits records rest changes now w) where
  -- one record more
  pub one_more : (body after : List ℕ) → length body < 2 ^ 32 → rest ≡ record_of body ++ after
      → (s : Step detail limits body after left.more now w) × (on : IsLeft detail limits records after changes (applied s.change now) w) × (on.more ≡ s.more)
  one_more body after short is =
      let s = step detail limits rest body after left.more now w short is left.leads in
      let body_is : change_bytes s.change ≡ body = sym s.spells.spelled in (
        s,
        record {
          more = s.more;
          leads = s.leads;
          length_is = omega (
            arith,
            left.length_is,
            ap (λ cs. length (records_of (bodies_of cs))) s.are,
            ap length is,
            length-append (record_of body) after,
            length-append (record_of (change_bytes s.change)) (records_of (bodies_of s.more)),
            ap (λ b. length (record_of b)) body_is,
          );
        },
        refl,
      )

  -- all of them
  pub all_done : HoldsBodies records (bodies_of changes) → IsClosed rest → HoldsLeaving records (bodies_of changes) (length rest) × (w ≡ now) × (left.more ≡ [])
  all_done held shut =
      let e = ends detail limits rest left.more now w shut left.leads in
      (record { held = held; left_is = omega (arith, left.length_is, ap (λ cs. length (records_of (bodies_of cs))) e.0) }, e.1, e.0)

-- ---- any records

-- a record in front of others
pub one_in_front : (body rest after : List ℕ) (bodies : List (List ℕ)) (left : ℕ) → length body < 2 ^ 32 → rest ≡ record_of body ++ after → HoldsLeaving after bodies left
    → HoldsLeaving rest (body ∷ bodies) left
one_in_front body rest after bodies left short is holds = record {
  held = (after, short, is, holds.held);
  left_is = omega (arith, holds.left_is, ap length is, length-append (record_of body) after, length-append (record_of body) (records_of bodies));
}

-- a closed gate
pub none_behind : (rest : List ℕ) → IsClosed rest → HoldsLeaving rest [] (length rest)
none_behind rest shut = record { held = shut; left_is = omega arith }

-- a record in front of others that lead on
pub in_front : (detail : Detail) (limits : Limits) (rest body after : List ℕ) (change : Change) (more : List Change) (now w : Volume) → length body < 2 ^ 32 → rest ≡ record_of body ++ after
    → SpellsRecord limits.has_attributes body change → AppliesIn detail limits now change → LeadTo detail limits after more (applied change now) w → LeadTo detail limits rest (change ∷ more) now w
in_front detail limits rest body after change more now w short is spells applies leads = record {
  are = All-cons (IsChange limits.has_attributes) change more spells.is leads.are;
  held = (after, subst (λ (b : List ℕ). length b < 2 ^ 32) spells.spelled short, is ∙ ap (λ (b : List ℕ). record_of b ++ after) spells.spelled, leads.held);
  replays = (applies, leads.replays);
}

-- behind a closed gate none lead on
pub none_lead : (detail : Detail) (limits : Limits) (rest : List ℕ) (now : Volume) → IsClosed rest → LeadTo detail limits rest [] now now
none_lead detail limits rest now shut = record { are = All-nil (IsChange limits.has_attributes); held = shut; replays = refl }
