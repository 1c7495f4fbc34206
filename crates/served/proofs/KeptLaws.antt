-- Replies that are kept among bytes, and sent.
use Rattle.std.proofs.Common.{◌≡◌, ◌∙◌, ◌++◌, ◌+◌, ◌-◌, ◌<◌, ◌≤◌, ℕ, List, [], ◌∷◌, Result, Ok, Err, ap, suc, zero, append_assoc, append-nil, arith, drop, get_or, inl, inr, length, length-append, length-drop, map, refl, subst, sym, take, take-append-drop}
use Rattle.std.proofs.KnownBytes.{Appends-nil, Appends-trans}
use Rattle.std.proofs.lemmas.List.{drop-append-le, drop_all, map-append, map_more, take-append-le, take_all}
use Rattle.std.specs.Io.KnownBytes.{Appends}
use Rattle.channel.specs.declared.channel.Channel.{Ghosts as Channel}
use Rattle.channel.specs.declared.channel.Ended.{Ended}
use Rattle.model.specs.declared.errno.Errno.{Errno}
use Rattle.served.specs.Kept.{AreWithin, Owed, owed, owed_at, owed_behind}
use Rattle.served.specs.Serving.{AreSent, IsSent}
use Rattle.served.specs.declared.kept.Place.{Place}

pub within_more : (n m : ℕ) (places : List Place) → n ≤ m → AreWithin n places → AreWithin m places
within_more n m [] le within = tt
within_more n m (p ∷ ps) le (front, end, rest) = (front, omega (arith, le, end), within_more n m ps le rest)

pub within_push : (n : ℕ) (places : List Place) (p : Place) → p.begin ≤ p.end → p.end ≤ n → AreWithin n places → AreWithin n (places ++ p ∷ [])
within_push n [] p front end within = (front, end, tt)
within_push n (q ∷ qs) p front end (one, two, rest) = (one, two, within_push n qs p front end rest)

pub within_at : (n : ℕ) (places : List Place) (i : ℕ) (d : Place) → i < length places → AreWithin n places → ((get_or places i d).begin ≤ (get_or places i d).end) × ((get_or places i d).end ≤ n)
within_at n [] i d below within = absurd (omega (arith, below))
within_at n (q ∷ qs) zero d below (front, end, rest) = (front, end)
within_at n (q ∷ qs) (suc i) d below (front, end, rest) = within_at n qs i d (omega (arith, below)) rest

-- bytes behind a place don't count
at_more : (bytes more : List ℕ) (p : Place) → p.begin ≤ p.end → p.end ≤ length bytes → owed_at (bytes ++ more) p ≡ owed_at bytes p
at_more bytes more p front end =
    let left : length (drop p.begin bytes) ≡ length bytes - p.begin = length-drop p.begin bytes in
    ap (owed p.unique) (
    ap (take (p.end - p.begin)) (drop-append-le p.begin bytes more (omega (arith, front, end)))
    ∙ take-append-le (p.end - p.begin) (drop p.begin bytes) more (omega (arith, front, end, left)))

pub all_at_more : (bytes more : List ℕ) (places : List Place) → AreWithin (length bytes) places → map (owed_at (bytes ++ more)) places ≡ map (owed_at bytes) places
all_at_more bytes more [] within = refl
all_at_more bytes more (p ∷ ps) (front, end, rest) = λ i. at_more bytes more p front end i ∷ all_at_more bytes more ps rest i

-- bytes that were put behind are at their place
at_pushed : (bytes text : List ℕ) (p : Place) → p.begin ≡ length bytes → p.end ≡ length (bytes ++ text) → owed_at (bytes ++ text) p ≡ owed p.unique text
at_pushed bytes text p front end =
    let whole : length (bytes ++ text) ≡ length bytes + length text = length-append bytes text in
    ap (owed p.unique) (
    ap (λ (n : ℕ). take (p.end - p.begin) (drop n (bytes ++ text))) front
    ∙ (ap (take (p.end - p.begin)) (drop-append-le (length bytes) bytes text (omega arith) ∙ ap (λ (l : List ℕ). l ++ text) (drop_all (length bytes) bytes (omega arith)))
    ∙ take_all (p.end - p.begin) text (omega (arith, front, end, whole))))

-- a reply is kept behind the others
pub kept_more : (bytes text : List ℕ) (places : List Place) (p : Place) → AreWithin (length bytes) places → p.begin ≡ length bytes → p.end ≡ length (bytes ++ text)
    → map (owed_at (bytes ++ text)) (places ++ p ∷ []) ≡ map (owed_at bytes) places ++ owed p.unique text ∷ []
kept_more bytes text places p within front end =
    map-append (owed_at (bytes ++ text)) places (p ∷ [])
    ∙ (λ i. all_at_more bytes text places within i ++ at_pushed bytes text p front end i ∷ [])

module _ {C : Type 0} (H : Channel C) where
  -- one reply more was sent
  sent_push : (a b c : C) (texts : List (List ℕ)) (text went part : List ℕ) → AreSent H a b texts went (Ok tt) → IsSent H b c text part (Ok tt) → AreSent H a c (texts ++ text ∷ []) (went ++ part) (Ok tt)
  sent_push a b c [] text went part (same, none, ok) one =
      inl (c, part, [], subst (λ (x : C). IsSent H x c text part (Ok tt)) same one, ap (λ (l : List ℕ). l ++ part) none ∙ sym (append-nil part), (refl, refl, refl))
  sent_push a b c (t ∷ ts) text went part (inl (next, first, rest, sent, is, behind)) one =
      inl (next, first, rest ++ part, sent, ap (λ (l : List ℕ). l ++ part) is ∙ append_assoc first rest part, sent_push next b c ts text rest part behind one)
  sent_push a b c (t ∷ ts) text went part (inr (ended, sent, is)) one = absurd (grind (arith, is))

  -- the channel ended at the next one
  sent_ended : (a b c : C) (texts : List (List ℕ)) (text went part : List ℕ) (ended : Ended) (rest : List (List ℕ)) → AreSent H a b texts went (Ok tt) → IsSent H b c text part (Err ended) → AreSent H a c (texts ++ text ∷ rest) (went ++ part) (Err ended)
  sent_ended a b c [] text went part ended others (same, none, ok) one =
      inr (ended, subst (λ (x : C). IsSent H x c text (went ++ part) (Err ended)) same (subst (λ (l : List ℕ). IsSent H b c text (l ++ part) (Err ended)) (sym none) one), refl)
  sent_ended a b c (t ∷ ts) text went part ended others (inl (next, first, rest, sent, is, behind)) one =
      inl (next, first, rest ++ part, sent, ap (λ (l : List ℕ). l ++ part) is ∙ append_assoc first rest part, sent_ended next b c ts text rest part ended others behind one)
  sent_ended a b c (t ∷ ts) text went part ended others (inr (why, sent, is)) one = absurd (grind (arith, is))

  -- So much of the first of them went so far.
  abbrev pub SentFirst : {X : Type 0} → (X → List ℕ) → List X → ℕ → C → C → Type 0
  SentFirst text xs i old now = (went : List ℕ) × AreSent H old now (map text (take i xs)) went (Ok tt) × Appends (H.gone old) (H.gone now) went

  abbrev pub SentSo : {X : Type 0} → (X → List ℕ) → List X → C → C → Result (Unit {0}) Ended → Type 0
  SentSo text xs old new result = (went : List ℕ) × AreSent H old new (map text xs) went result × Appends (H.gone old) (H.gone new) went

  abbrev pub SentOne : List ℕ → C → C → Result (Unit {0}) Ended → Type 0
  SentOne text old new result = (part : List ℕ) × IsSent H old new text part result × Appends (H.gone old) (H.gone new) part

  pub first_none : {X : Type 0} (text : X → List ℕ) (xs : List X) (s : C) → SentFirst text xs 0 s s
  first_none text xs s = ([], (refl, refl, refl), Appends-nil (H.gone s))

  module _ {X : Type 0} (text : X → List ℕ) (xs : List X) (i : ℕ) (d : X) (old mid new : C) (below : i < length xs) where
    abbrev x : X
    x = get_or xs i d

    here : map text (take (i + 1) xs) ≡ map text (take i xs) ++ text x ∷ []
    here = map_more text xs i d below

    pub first_more : SentFirst text xs i old mid → SentOne (text x) mid new (Ok tt) → SentFirst text xs (i + 1) old new
    first_more (went, sent, gone) (part, one, behind) = (
      went ++ part,
      subst (λ (l : List (List ℕ)). AreSent H old new l (went ++ part) (Ok tt)) (sym here) (sent_push old mid new (map text (take i xs)) (text x) went part sent one),
      Appends-trans (H.gone old) (H.gone mid) (H.gone new) went part gone behind,
    )

    pub first_ended : (ended : Ended) → SentFirst text xs i old mid → SentOne (text x) mid new (Err ended) → SentSo text xs old new (Err ended)
    first_ended ended (went, sent, gone) (part, one, behind) =
        let others = map text (drop (i + 1) xs) in
        let whole : map text xs ≡ map text (take i xs) ++ text x ∷ others =
        ap (map text) (sym (take-append-drop (i + 1) xs)) ∙ (map-append text (take (i + 1) xs) (drop (i + 1) xs)
        ∙ (ap (λ (l : List (List ℕ)). l ++ others) here ∙ append_assoc (map text (take i xs)) (text x ∷ []) others)) in (
          went ++ part,
          subst (λ (l : List (List ℕ)). AreSent H old new l (went ++ part) (Err ended)) (sym whole) (sent_ended old mid new (map text (take i xs)) (text x) went part ended others sent one),
          Appends-trans (H.gone old) (H.gone mid) (H.gone new) went part gone behind,
        )

  pub first_all : {X : Type 0} (text : X → List ℕ) (xs : List X) (i : ℕ) (old new : C) → length xs ≤ i → SentFirst text xs i old new → SentSo text xs old new (Ok tt)
  first_all text xs i old new past (went, sent, gone) =
      (went, subst (λ ys. AreSent H old new (map text ys) went (Ok tt)) (take_all i xs past) sent, gone)

  -- what is told of each of them, by where it lies
  pub sent_by : (done : Result (Unit {0}) Errno) (bytes : List ℕ) (places : List Place) (old new : C) (result : Result (Unit {0}) Ended)
      → SentSo (λ p. owed_behind done (owed_at bytes p)) places old new result → SentSo (owed_behind done) (map (owed_at bytes) places) old new result
  sent_by done bytes places old new result (went, sent, gone) =
      (went, subst (λ (l : List (List ℕ)). AreSent H old new l went result) (twice done bytes places) sent, gone)
    where
      twice : (done : Result (Unit {0}) Errno) (bytes : List ℕ) (places : List Place) → map (λ p. owed_behind done (owed_at bytes p)) places ≡ map (owed_behind done) (map (owed_at bytes) places)
      twice done bytes [] = refl
      twice done bytes (p ∷ ps) = ap (λ (l : List (List ℕ)). owed_behind done (owed_at bytes p) ∷ l) (twice done bytes ps)

-- The kept replies are those at the places, as they were borrowed.
pub within_so : (items bytes : List ℕ) (all places : List Place) → bytes ≡ items → places ≡ all → AreWithin (length items) all → AreWithin (length bytes) places
within_so items bytes all places one two within =
    subst (λ (l : List ℕ). AreWithin (length l) places) (sym one) (subst (AreWithin (length items)) (sym two) within)

pub kept_so : (items bytes : List ℕ) (all places : List Place) (kept : List Owed) → bytes ≡ items → places ≡ all → map (owed_at items) all ≡ kept → map (owed_at bytes) places ≡ kept
kept_so items bytes all places kept one two is = (λ i. map (owed_at (one i)) (two i)) ∙ is

pub sent_kept : {C : Type 0} (H : Channel C) (done : Result (Unit {0}) Errno) (bytes : List ℕ) (places : List Place) (kept : List Owed) (old new : C) (result : Result (Unit {0}) Ended) → map (owed_at bytes) places ≡ kept
    → SentSo H (λ p. owed_behind done (owed_at bytes p)) places old new result → SentSo H (owed_behind done) kept old new result
sent_kept H done bytes places kept old new result is sent =
    subst (λ (l : List Owed). SentSo H (owed_behind done) l old new result) is (sent_by H done bytes places old new result sent)

-- A reply was written behind the bytes.
module _ (bytes text new : List ℕ) (all places : List Place) (kept : List Owed) (wrote : new ≡ bytes ++ text) (within : AreWithin (length bytes) all) (is : map (owed_at bytes) all ≡ kept) where
  longer : length new ≡ length bytes + length text
  longer = ap length wrote ∙ length-append bytes text

  -- it has no place
  pub within_unplaced : places ≡ all → AreWithin (length new) places
  within_unplaced same = subst (AreWithin (length new)) (sym same) (within_more (length bytes) (length new) all (omega (arith, longer)) within)

  pub view_unplaced : places ≡ all → map (owed_at new) places ≡ kept
  view_unplaced same = (λ i. map (owed_at (wrote i)) (same i)) ∙ (all_at_more bytes text all within ∙ is)

  -- it has this place
  module _ (p : Place) (front : p.begin ≡ length bytes) (end : p.end ≡ length new) (put : places ≡ all ++ p ∷ []) where
    pub within_placed : AreWithin (length new) places
    within_placed =
        subst (AreWithin (length new)) (sym put) (within_push (length new) all p (omega (arith, front, end, longer)) (omega (arith, end)) (within_more (length bytes) (length new) all (omega (arith, longer)) within))

    pub view_placed : map (owed_at new) places ≡ kept ++ owed p.unique text ∷ []
    view_placed =
        (λ i. map (owed_at (wrote i)) (put i))
        ∙ (kept_more bytes text all p within front (end ∙ ap length wrote) ∙ ap (λ (l : List Owed). l ++ owed p.unique text ∷ []) is)
