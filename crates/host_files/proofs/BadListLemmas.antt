-- A list of sectors that can't be read grows at its end.
use Rattle.std.proofs.Common.{◌≡◌, ℕ, suc, ◌+◌, ◌<◌, ◌≤◌, List, [], ◌∷◌, ◌++◌, length, get_or, inl, inr, arith, sym, ◌∙◌, ap, append-nil, append_assoc, drop, refl}
use Rattle.std.specs.Prelude.{slice_index}
use Rattle.std.specs.Fmt.{decimal}
use Rattle.std.specs.List.Sorted.{IsStrictlyIncreasing}
use Rattle.std.proofs.lemmas.Bool.{cases_lt}
use Rattle.std.proofs.lemmas.Grind.{flat_map-append}
use Rattle.std.proofs.lemmas.List.{get_or_append_left, length_push}
use Rattle.std.proofs.lemmas.List.Elements.{All-append}
use Rattle.std.proofs.Math.Seq.{drop-cons, get_or-append_seam}
use Rattle.host_files.specs.BadList.{EndsLine, IsBehind, IsListOf, line_of, list_text}

rising_more : (numbers : List ℕ) (least n : ℕ) → IsStrictlyIncreasing numbers → IsBehind numbers least → least ≤ n → IsStrictlyIncreasing (numbers ++ (n ∷ []))
rising_more numbers least n rising behind from k lt = elim (cases_lt (k + 1) (length numbers)) [
  | inl before ↦ omega (arith, rising k before, get_or_append_left numbers (n ∷ []) 0 k (omega (arith, before)), get_or_append_left numbers (n ∷ []) 0 (k + 1) before)
  | inr past ↦
      let long : length (numbers ++ (n ∷ [])) ≡ length numbers + 1 = length_push numbers n in
      let at : k + 1 ≡ length numbers = omega (arith, lt, past, long) in
      let last : get_or (numbers ++ (n ∷ [])) (k + 1) 0 ≡ n = ap (λ i. get_or (numbers ++ (n ∷ [])) i 0) at ∙ get_or-append_seam numbers n [] 0 in
      omega (arith, from, behind k at, get_or_append_left numbers (n ∷ []) 0 k (omega (arith, at)), last)
]

one_line : (n : ℕ) → list_text (n ∷ []) ≡ line_of n
one_line n = append-nil (line_of n)

pub ends_line : (word old new : List ℕ) (sectors least n : ℕ) → IsListOf sectors old → IsBehind old least → least ≤ n → n < sectors → word ≡ decimal n → new ≡ old ++ (n ∷ []) → EndsLine word sectors old new
ends_line word old new sectors least n list behind from below spelled is = rw is (record {
  text = flat_map-append line_of old (n ∷ []) ∙ ap (λ w. list_text old ++ w) (one_line n) ∙ ap (λ w. list_text old ++ (w ++ (10 ∷ []))) (sym spelled);
  list = record {
    rising = rising_more old least n list.rising behind from;
    below = All-append (λ m. m < sectors) old (n ∷ []) list.below (λ k d lt. grind (arith, lt, below));
  };
})

-- a byte of the text more comes to the word
pub fed : (before word text more : List ℕ) (i b : ℕ) → i < length text → b ≡ slice_index text i → more ≡ word ++ (b ∷ []) → before ++ (word ++ drop i text) ≡ text
    → before ++ (more ++ drop (i + 1) text) ≡ text
fed before word text more i b lt is pushed same =
    let one : suc i ≡ i + 1 = omega arith in
    let next : drop i text ≡ b ∷ drop (i + 1) text =
    drop-cons text i 0 lt ∙ ap (λ n. get_or text i 0 ∷ drop n text) one ∙ ap (λ x. x ∷ drop (i + 1) text) (sym is) in
    ap (λ w. before ++ (w ++ drop (i + 1) text)) pushed
    ∙ ap (λ w. before ++ w) (append_assoc word (b ∷ []) (drop (i + 1) text))
    ∙ ap (λ d. before ++ (word ++ d)) (sym next) ∙ same

-- a line ends
pub ended : (word text old new : List ℕ) (sectors i b : ℕ) → i < length text → b ≡ slice_index text i → b ≡ 10 → EndsLine word sectors old new → list_text old ++ (word ++ drop i text) ≡ text
    → list_text new ++ ([] ++ drop (i + 1) text) ≡ text
ended word text old new sectors i b lt is feed ends same =
    ap (λ l. l ++ drop (i + 1) text) (ends.text ∙ ap (λ x. list_text old ++ (word ++ (x ∷ []))) (sym feed))
    ∙ append_assoc (list_text old) (word ++ (b ∷ [])) (drop (i + 1) text)
    ∙ fed (list_text old) word text (word ++ (b ∷ [])) i b lt is refl same
