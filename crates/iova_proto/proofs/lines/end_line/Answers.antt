use Rattle.std.proofs.Common.{ℕ, ◌≡◌, ◌∙◌, inl, List, [], ◌∷◌, ◌++◌, length, refl, sym, ap, arith, append_assoc}
use Rattle.std.proofs.lemmas.Bool.{eqb-true}
use Rattle.iova_text.specs.Lines.{is_not_lf, HasNoLf, whole_line}
use Rattle.iova_text.proofs.Cuts.{list_all-append}
use Rattle.iova_proto.specs.declared.request.Request.{Request}
use Rattle.iova_proto.specs.Requests.{IsRequest, request_line}
use Rattle.iova_proto.proofs.Feeding.{line_of}
use Rattle.iova_proto.proofs.lines.end_line.Goals as goal
use Rattle.iova_proto.proofs.lines.end_line.Goals.{then-is_empty, else-is_empty}

nothing_before : (kept line : List ℕ) → length kept ≡ 0 → line ≡ kept ++ line
nothing_before [] line none = refl
nothing_before (b ∷ kept) line none = absurd (omega (arith, none))

pub returns-in-None : goal.returns-in-None
returns-in-None c more =
    let kept = c.args.cutter.now in
    let end = c.args.end.now in
    let one : HasNoLf (kept ++ end) = list_all-append is_not_lf kept end c.is_empty.ensures.unended.one c.requires.one in
    let refused : (r : Request) → IsRequest r → kept ++ end ≡ request_line r → ⊥ = λ r good e.
    elim c.if-is_empty.branch [
      | then-is_empty w ↦
          let is = w.request_of-request.ensures.read r good (nothing_before kept end (eqb-true (length kept) 0 (sym w.if-is_empty.ensures.value)) ∙ e) in
          let none = sym c.in-None.is ∙ (w.request-is ∙ is) in
          cc
      | else-is_empty w ↦
          let is = w.request_of_parts-request.ensures.read r good e in
          let none = sym c.in-None.is ∙ (w.request-is ∙ is) in
          cc
    ] in (
      inl (record {
        line = kept ++ end;
        more = more;
        whole = sym (append_assoc kept (whole_line end) more) ∙ ap (λ (x : List ℕ). x ++ more) (sym (append_assoc kept end (10 ∷ [])));
        one = one;
        odd = λ r spells. refused r spells.good (line_of (kept ++ end) r one spells);
      }),
      refl,
    )
