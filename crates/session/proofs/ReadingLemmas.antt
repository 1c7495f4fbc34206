-- Lines taken from the beginning of known bytes.
use Rattle.std.proofs.Common.{◌≡◌, ◌≢◌, inl, inr, ℕ, ◌+◌, ◌-◌, ◌<◌, ◌==◌, Bool, false, List, [], ◌∷◌, ◌++◌, length, take, drop, Option, Some, None, arith, refl, sym, ◌∙◌, ap, subst, add-one, append_assoc, drop-cons, slice_index}
use Rattle.std.specs.Io.KnownBytes.{prepend_known, Consumes, IsAtEnd, Keeps}
use Rattle.std.proofs.Math.Seq.{take-add}
use Rattle.memchr.specs.Find.{is_byte, IsFirstByte}
use Rattle.std.proofs.lemmas.Bool.{eqb-true, false_from_ne_true, true≢false}
use Rattle.std.proofs.lemmas.List.{append-nil, drop-drop, get_or-take, length-append, length-drop, length-take, take_all, take-append-drop}
use Rattle.std.proofs.lemmas.List.Elements.{All-append, All-from_get_or}
use Rattle.std.specs.Prelude.{IfSome, IsNone, Ok, MatchOption}
use Rattle.session.specs.Reading.{EndsReading, IsHeardAs, IsPlain, Loses, TakesLine}
use Rattle.session.specs.declared.reading.Heard.{Heard}
use Rattle.session.specs.Scripts.{is_skipped}
use Rattle.session.specs.declared.reading.Heard.TheVariants.{TooLong}
use Rattle.session.specs.declared.reading.TheConstants.{LINE_BYTES}

-- the first line ends here
abbrev pub EndsLine : List ℕ → ℕ → Type 0
EndsLine xs end = (end < length xs) × IsPlain (take end xs) × (drop end xs ≡ 10 ∷ drop (end + 1) xs)

-- the first line's end was found, or there is none
module _ (xs : List ℕ) where
  plain_none : IsFirstByte (is_byte 10) xs None → IsPlain xs
  plain_none none = All-from_get_or (λ b. (b == 10) ≡ false) xs 0 (λ i within. false_from_ne_true (slice_index xs i == 10) (none i (omega arith) within))

  ends_found : (end : ℕ) → IsFirstByte (is_byte 10) xs (Some end) → EndsLine xs end
  ends_found end found =
      let within : end < length xs = found.0.high in (
        within,
        All-from_get_or (λ b. (b == 10) ≡ false) (take end xs) 0 (λ i below.
            let before : i < end = omega (arith, length-take end xs) in
            rw (get_or-take end xs i 0 before) (false_from_ne_true (slice_index xs i == 10) (found.0.before i (omega arith) before))),
        rw (add-one, drop-cons xs end 0, eqb-true (slice_index xs end) 10 found.1) refl,
      )

  pub end_told : (r : Option ℕ) → IsFirstByte (is_byte 10) xs r → IfSome r (EndsLine xs) × (IsNone r → IsPlain xs)
  end_told None none = (tt, λ _. plain_none none)
  end_told (Some end) found = (ends_found end found, λ none. absurd (true≢false none))

-- no line ends in the first bytes
module _ (xs : List ℕ) (plain : ℕ) (front : IsPlain (take plain xs)) where
  behind : take (length xs - plain) (drop plain xs) ≡ drop plain xs
  behind = take_all (length xs - plain) (drop plain xs) (omega (arith, length-drop plain xs))

  pub ends_behind : (end : ℕ) → EndsLine (take (length xs - plain) (drop plain xs)) end → EndsLine xs (plain + end)
  ends_behind end found =
      let ends : EndsLine (drop plain xs) end = subst (λ (l : List ℕ). EndsLine l end) behind found in
      let next : plain + (end + 1) ≡ plain + end + 1 = omega arith in (
        omega (arith, ends.0, length-drop plain xs),
        rw (take-add plain end xs) (All-append (λ b. (b == 10) ≡ false) (take plain xs) (take end (drop plain xs)) front ends.1),
        sym (drop-drop end plain xs) ∙ ends.2 ∙ ap (λ l. 10 ∷ l) (drop-drop (end + 1) plain xs ∙ ap (λ (n : ℕ). drop n xs) next),
      )

  pub plain_behind : IsPlain (take (length xs - plain) (drop plain xs)) → IsPlain xs
  plain_behind rest = subst IsPlain (take-append-drop plain xs) (All-append (λ b. (b == 10) ≡ false) (take plain xs) (drop plain xs) front (subst IsPlain behind rest))

pub keeps_twice : (a b c : Option (List ℕ)) → Keeps a b → Keeps b c → Keeps a c
keeps_twice None b c first second = tt
keeps_twice (Some x) None c first second = absurd first
keeps_twice (Some x) (Some y) None first second = absurd second
keeps_twice (Some x) (Some y) (Some z) first second = second ∙ first

pub keeps_same : (a : Option (List ℕ)) → Keeps a a
keeps_same None = tt
keeps_same (Some x) = refl

pub loses_kept : (a b c : Option (List ℕ)) (line : List ℕ) → Keeps a b → Loses b c line → Loses a c line
loses_kept None b c line kept loses = tt
loses_kept (Some x) None c line kept loses = absurd kept
loses_kept (Some x) (Some y) None line kept loses = absurd loses
loses_kept (Some x) (Some y) (Some z) line kept loses = subst (λ (l : List ℕ). Loses (Some l) (Some z) line) kept loses

-- a line that ends at a place of what is pending
pub line_taken : (p : List ℕ) (r : Option (List ℕ)) (i : ℕ) → drop i p ≡ 10 ∷ drop (i + 1) p → Loses (prepend_known p r) (prepend_known (drop (i + 1) p) r) (take i p)
line_taken p None i ends = tt
line_taken p (Some xs) i ends = inl (ap (λ l. l ++ xs) (sym (take-append-drop i p) ∙ ap (λ l. take i p ++ l) ends) ∙ append_assoc (take i p) (10 ∷ drop (i + 1) p) xs)

-- the last one, which has no end
pub last_taken : (p : List ℕ) (r : Option (List ℕ)) → IsAtEnd r → p ≢ [] → Loses (prepend_known p r) (prepend_known [] r) p
last_taken p None end some = tt
last_taken p (Some xs) end some = inr (ap (λ l. p ++ l) end ∙ append-nil p, end, some)

-- Of a line that is too long some bytes are gone; these and what is pending are a beginning of it.
pub record IsSkipping (known : Option (List ℕ)) (p : List ℕ) (r : Option (List ℕ)) (is_comment : Bool) : Type 0 where
  pub gone : List ℕ
  pub consumes : Consumes known (prepend_known p r) gone
  pub plain : IsPlain (gone ++ p)
  pub long : LINE_BYTES < length (gone ++ p)
  pub comment : is_comment ≡ is_skipped (gone ++ p)

-- what is pending goes too
all_gone : (known : Option (List ℕ)) (p : List ℕ) (r k : Option (List ℕ)) (gone : List ℕ) → Consumes known (prepend_known p r) gone → Keeps (prepend_known [] r) k → Consumes known k (gone ++ p)
all_gone None p r k gone consumes kept = tt
all_gone (Some x) p None k gone consumes kept = absurd consumes
all_gone (Some x) p (Some xs) None gone consumes kept = absurd kept
all_gone (Some x) p (Some xs) (Some ys) gone consumes kept = consumes ∙ sym (append_assoc gone p xs) ∙ ap (λ l. (gone ++ p) ++ l) (sym kept)

skipped_more : (xs ys : List ℕ) → 0 < length xs → is_skipped (xs ++ ys) ≡ is_skipped xs
skipped_more [] ys some = absurd (omega (arith, some))
skipped_more (x ∷ xs) ys some = refl

module _ (known : Option (List ℕ)) (p : List ℕ) (r : Option (List ℕ)) (is_comment : Bool) (so_far : IsSkipping known p r is_comment) (q : List ℕ) (s : Option (List ℕ)) (kept : Keeps (prepend_known [] r) (prepend_known q s)) where
  abbrev all : List ℕ
  all = so_far.gone ++ p

  some : 0 < length all
  some = omega (arith, so_far.long)

  longer : (t : List ℕ) → LINE_BYTES < length (all ++ t)
  longer t = omega (arith, so_far.long, length-append all t)

  same : (t : List ℕ) → is_comment ≡ is_skipped (all ++ t)
  same t = so_far.comment ∙ sym (skipped_more all t some)

  -- and the line goes on
  pub skipping_on : IsPlain q → IsSkipping known q s is_comment
  skipping_on plain = record {
    gone = all;
    consumes = all_gone known p r (prepend_known q s) so_far.gone so_far.consumes kept;
    plain = All-append (λ b. (b == 10) ≡ false) all q so_far.plain plain;
    long = longer q;
    comment = same q;
  }

  -- or ends here
  pub skipped_to : (i : ℕ) → IsPlain (take i q) → drop i q ≡ 10 ∷ drop (i + 1) q → (line : List ℕ) × TakesLine known (prepend_known (drop (i + 1) q) s) line × IsHeardAs line (TooLong is_comment)
  skipped_to i plain ends = (
    all ++ take i q,
    record { plain = All-append (λ b. (b == 10) ≡ false) all (take i q) so_far.plain plain; loses = loses_behind known s (all_gone known p r (prepend_known q s) so_far.gone so_far.consumes kept) },
    (longer (take i q), same (take i q)),
  )
    where
      loses_behind : (k t : Option (List ℕ)) → Consumes k (prepend_known q t) all → Loses k (prepend_known (drop (i + 1) q) t) (all ++ take i q)
      loses_behind None t consumes = tt
      loses_behind (Some x) None consumes = absurd consumes
      loses_behind (Some x) (Some xs) consumes =
          inl (consumes ∙ ap (λ l. all ++ l) (ap (λ l. l ++ xs) (sym (take-append-drop i q) ∙ ap (λ l. take i q ++ l) ends) ∙ append_assoc (take i q) (10 ∷ drop (i + 1) q) xs)
          ∙ sym (append_assoc all (take i q) (10 ∷ (drop (i + 1) q ++ xs))))

  -- or the input ends
  pub skipped_all : q ≡ [] → IsAtEnd s → (line : List ℕ) × TakesLine known (prepend_known q s) line × IsHeardAs line (TooLong is_comment)
  skipped_all none end = (
    all,
    record { plain = so_far.plain; loses = loses_all known s (all_gone known p r (prepend_known q s) so_far.gone so_far.consumes kept) end },
    (so_far.long, so_far.comment),
  )
    where
      loses_all : (k t : Option (List ℕ)) → Consumes k (prepend_known q t) all → IsAtEnd t → Loses k (prepend_known q t) all
      loses_all None t consumes end = tt
      loses_all (Some x) None consumes end = absurd consumes
      loses_all (Some x) (Some xs) consumes end =
          let rest : q ++ xs ≡ [] = ap (λ (l : List ℕ). l ++ xs) none ∙ end in
          inr (consumes ∙ ap (λ (l : List ℕ). all ++ l) rest ∙ append-nil all, rest, λ is. omega (arith, some, ap (λ (l : List ℕ). length l) is))

at_end : (k : Option (List ℕ)) (p : List ℕ) (r : Option (List ℕ)) → Keeps k (prepend_known p r) → IsAtEnd r → p ≡ [] → IsAtEnd k
at_end None p r kept end none = tt
at_end (Some x) p None kept end none = absurd kept
at_end (Some x) p (Some xs) kept end none = sym kept ∙ ap (λ l. p ++ l) end ∙ append-nil p ∙ none

-- at the end of the input, what is pending is the last line
pub ends_rest : (k : Option (List ℕ)) (p q : List ℕ) (r : Option (List ℕ)) (result : Option Heard) → Keeps k (prepend_known p r) → IsAtEnd r → IsPlain p → q ≡ [] → MatchOption result (p ≡ []) (λ heard. (p ≢ []) × IsHeardAs p heard)
    → EndsReading k (prepend_known q r) (Ok result)
ends_rest k p q r None kept end plain empty rest = at_end k p r kept end rest
ends_rest k p q r (Some heard) kept end plain empty rest = (
  p,
  record {
    plain = plain;
    loses = subst (λ (l : List ℕ). Loses k (prepend_known l r) p) (sym empty) (loses_kept k (prepend_known p r) (prepend_known [] r) p kept (last_taken p r end rest.0));
  },
  rest.1,
)

-- nothing is pending
pub known_none : (r : Option (List ℕ)) → prepend_known [] r ≡ r
known_none None = refl
known_none (Some xs) = refl

-- a call that failed before kept known bytes
pub consumes_kept : (a b c : Option (List ℕ)) (bs : List ℕ) → Keeps a b → Consumes b c bs → Consumes a c bs
consumes_kept None b c bs kept consumes = tt
consumes_kept (Some x) None c bs kept consumes = absurd kept
consumes_kept (Some x) (Some y) None bs kept consumes = absurd consumes
consumes_kept (Some x) (Some y) (Some z) bs kept consumes = sym kept ∙ consumes
