use Rattle.std.proofs.Common.{◌≡◌, ◌∷◌, ◌++◌, ◌∙◌, [], List, ℕ, Result, Ok, Err, OnOk, ap, append_assoc, codes, refl, sym}
use Rattle.std.proofs.lemmas.List.{append-nil}
use Rattle.std.specs.Fmt.{decimal}
use Rattle.script.specs.Lines.{spaced}
use Rattle.script.specs.Replies.{owner_words, times_words}
use Rattle.script.proofs.replies.push_attributes.Goals as goal

-- words behind words
spaced-append : (xs ys : List (List ℕ)) → spaced (xs ++ ys) ≡ spaced xs ++ spaced ys
spaced-append [] ys = refl
spaced-append (x ∷ xs) ys = ap (λ (r : List ℕ). 32 ∷ (x ++ r)) (spaced-append xs ys) ∙ ap (λ (r : List ℕ). 32 ∷ r) (sym (append_assoc x (spaced xs) (spaced ys)))

-- what was added to a line behind what was added before
behind : {T E : Type 0} (r : Result T E) (line old mid front rest whole : List ℕ) → OnOk r (line ≡ mid ++ rest) → mid ≡ old ++ front → front ++ rest ≡ whole → OnOk r (line ≡ old ++ whole)
behind (Ok v) line old mid front rest whole h e is = h ∙ ap (λ l. l ++ rest) e ∙ append_assoc old front rest ∙ ap (λ l. old ++ l) is
behind (Err v) line old mid front rest whole h e is = tt

pub returns : goal.returns
returns c =
    let a = c.args.attributes.now in
    let words = owner_words a ++ times_words a in
    let last = codes "generation" ∷ decimal a.generation ∷ [] in
    let spelled : spaced last ≡ codes " generation " ++ decimal a.generation = ap (λ (d : List ℕ). codes " generation " ++ d) (append-nil (decimal a.generation)) in
    behind c.push_number.result _ _ _ (spaced words) (codes " generation " ++ decimal a.generation) (spaced (words ++ last)) c.push_number.ensures c.in_ok-push_owners_and_times.ensures
    (ap (λ (d : List ℕ). spaced words ++ d) (sym spelled) ∙ sym (spaced-append words last))
