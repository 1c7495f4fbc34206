use Rattle.std.proofs.Common.{◌≡◌, ◌∙◌, inl, inr, ℕ, ◌+◌, ◌++◌, drop, get_or, length, length-append, sym, ap, subst, arith}
use Rattle.std.proofs.lemmas.List.Elements.{All-push}
use Rattle.std.proofs.Math.Seq.{drop-append_seam}
use Rattle.checker.specs.Spans.{IsLess, IsSpan, name_in}
use Rattle.checker.specs.declared.seen.Span.{Span}
use Rattle.checker.proofs.SeenNames.{less_on, less_self, name_kept, name_last, push_cases, push_last, push_left, within_at}
use Rattle.checker.proofs.seen.Rising.push.Goals as goal

pub invariant_of-self-2 : goal.invariant_of-self-2
invariant_of-self-2 c =
    let old = c.args.self.now in
    let name = c.args.name.now in
    let text = old.text.items in
    let span : Span = record { from = c.len-from.result; to = c.len-to.result } in
    let long : c.len-from.result ≡ length text = omega (arith, c.len-from.ensures, old.text.ok.0) in
    let end : c.len-to.result ≡ length text + length name = omega (arith, c.len-to.ensures, c.in_ok-extend_from_slice.ensures.len, old.text.ok.0) in
    let rest = ap (λ (k : ℕ). drop k (text ++ name)) long ∙ drop-append_seam text name in
    let is = name_last text name span long end in
    rw (c.in-Ok.ensures.items, c.in_ok-extend_from_slice.ensures.items) record {
      behind = omega (arith, long, length-append text name);
      within = All-push (λ (s : Span). IsSpan s (text ++ name)) old.spans.items span
          (λ k d lt. record { rises = (old.within k d lt).rises; within = omega (arith, (old.within k d lt).within, length-append text name) })
          (record { rises = omega (arith, long, end); within = omega (arith, end, length-append text name) });
      rising = All-push (λ (s : Span). IsLess (drop c.len-from.result (text ++ name)) (name_in (text ++ name) s) → ⊥) old.spans.items span
          (λ k d lt less.
          let s : Span = get_or old.spans.items k d in
          let p = name_in text s in
          old.rising k d lt (less_on (drop old.last text) name p c.requires (subst (λ x. IsLess x p) rest
          (subst (λ x. IsLess (drop c.len-from.result (text ++ name)) x) (name_kept text name s (old.within k d lt)) less))))
          (λ less. less_self name (subst (λ x. IsLess x name) rest (subst (λ x. IsLess (drop c.len-from.result (text ++ name)) x) is less)));
    }

pub returns : goal.returns
returns c = λ x.
    let old = c.args.self.now in
    let name = c.args.name.now in
    let text = old.text.items in
    let span : Span = record { from = c.len-from.result; to = c.len-to.result } in
    let long : c.len-from.result ≡ length text = omega (arith, c.len-from.ensures, old.text.ok.0) in
    let end : c.len-to.result ≡ length text + length name = omega (arith, c.len-to.ensures, c.in_ok-extend_from_slice.ensures.len, old.text.ok.0) in
    let is = name_last text name span long end in
    rw (c.in-Ok.ensures.items, c.in_ok-extend_from_slice.ensures.items) (
      λ (k, s, at, named). elim (push_cases old.spans.items span k s at) [
        | inl there ↦ inr (k, s, there, sym (name_kept text name s (within_at old.spans.items text k s old.within there)) ∙ named)
        | inr last ↦ inl (sym named ∙ ap (name_in (text ++ name)) last ∙ is)
      ],
      λ one. elim one [
        | inl same ↦ (length old.spans.items, span, push_last old.spans.items span, is ∙ sym same)
        | inr (k, s, at, named) ↦ (k, s, push_left old.spans.items span k s at, name_kept text name s (within_at old.spans.items text k s old.within at) ∙ named)
      ],
    )
