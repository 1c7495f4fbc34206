use Rattle.std.proofs.Common.{◌≡◌, ◌∷◌, ◌++◌, ◌∙◌, List, ℕ, Result, Ok, Err, OnOk, ap, append_assoc, codes, refl, sym}
use Rattle.std.proofs.lemmas.Grind.{flat_map-append}
use Rattle.std.specs.Fmt.{decimal}
use Rattle.model.specs.declared.reply.Reply.{Reply}
use Rattle.script.specs.Lines.{spaced}
use Rattle.script.specs.Replies.{attribute_words, reply_line, stat_words}
use Rattle.script.proofs.replies.push_reply.Goals as goal

-- a reply's line, of which the front and then the rest was added
in_two : {T E : Type 0} (r : Result T E) (reply answer : Reply) (line old mid front rest : List ℕ) → OnOk r (line ≡ mid ++ rest) → mid ≡ old ++ front → reply ≡ answer → front ++ rest ≡ reply_line answer → OnOk r (line ≡ old ++ reply_line reply)
in_two (Ok v) reply answer line old mid front rest h e is spelled = h ∙ ap (λ l. l ++ rest) e ∙ append_assoc old front rest ∙ ap (λ l. old ++ l) (spelled ∙ ap reply_line (sym is))
in_two (Err v) reply answer line old mid front rest h e is spelled = tt

pub returns-in_ok-push_number-in-Opened : goal.returns-in_ok-push_number-in-Opened
returns-in_ok-push_number-in-Opened c = in_two c.push_stat.result _ _ _ _ _ (codes "opened fd " ++ decimal c.in-Opened.fd) _ c.push_stat.ensures (rw c.from-in-Opened.ensures at c.in_ok-push_number-in-Opened.ensures) c.in-Opened.is refl

pub returns-in_ok-extend_from_slice-in-Stat : goal.returns-in_ok-extend_from_slice-in-Stat
returns-in_ok-extend_from_slice-in-Stat c = in_two c.push_stat-in-Stat.result _ _ _ _ _ (codes "stat") _ c.push_stat-in-Stat.ensures c.in_ok-extend_from_slice-in-Stat.ensures.items c.in-Stat.is refl

pub returns-in_ok-push_stat-in-Attributes : goal.returns-in_ok-push_stat-in-Attributes
returns-in_ok-push_stat-in-Attributes c =
    let stat = spaced (stat_words c.in-Attributes.stat) in
    let attributes = spaced (attribute_words c.in-Attributes.attributes) in
    in_two c.push_attributes.result _ _ _ _ _ (codes "attr" ++ stat) attributes c.push_attributes.ensures
    (c.in_ok-push_stat-in-Attributes.ensures ∙ ap (λ (l : List ℕ). l ++ stat) c.in_ok-extend_from_slice-in-Attributes.ensures.items ∙ append_assoc c.args.line.now.items (codes "attr") stat)
    c.in-Attributes.is
    (append_assoc (codes "attr") stat attributes ∙ ap (λ (l : List ℕ). codes "attr" ++ l) (sym (flat_map-append (λ (word : List ℕ). 32 ∷ word) (stat_words c.in-Attributes.stat) (attribute_words c.in-Attributes.attributes))))
