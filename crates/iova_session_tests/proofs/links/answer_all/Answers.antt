use Rattle.std.proofs.Common.{◌∙◌, ◌++◌, [], ◌∷◌, sym, ap, append-nil, append_assoc, arith, take, get_or, false}
use Rattle.std.proofs.lemmas.List.{take_more}
use Rattle.iova_proto.specs.declared.request.Request.TheVariants as request
use Rattle.iova_session.specs.Pairs.{Pair, requests_of, answers_of}
use Rattle.iova_session_tests.proofs.Texts.{requests_of-append, answers_of-append, requests_of-nil, answers_of-nil, requests_of-one, answers_of-one}
use Rattle.iova_session_tests.proofs.links.answer_all.Goals as goal

pub loop-request-init : goal.loop-request-init
loop-request-init c = record {
  room = omega arith;
  ps = [];
  pairs = sym (append-nil c.args.pairs.now);
  asked = requests_of-nil;
  told = sym (ap (λ x. c.args.answers.now.items ++ x) answers_of-nil ∙ append-nil c.args.answers.now.items);
}

pub loop-request-preserved : goal.loop-request-preserved
loop-request-preserved c =
    let inv = c.loop-request.invariant in
    let i = c.loop-request.request-index in
    let r = get_or c.args.requests.now i (request.Hello 0 false) in
    let p : Pair = record { request = r; answer = c.answer_of-answer.result } in record {
      room = omega (arith, c.in-Ok.ensures.len, c.in-Ok.ensures.capacity, inv.room);
      ps = inv.ps ++ p ∷ [];
      pairs = c.add.ensures ∙ ap (λ x. x ++ p ∷ []) inv.pairs ∙ append_assoc c.args.pairs.now inv.ps (p ∷ []);
      asked = requests_of-append inv.ps (p ∷ []) ∙ ap (λ x. x ++ requests_of (p ∷ [])) inv.asked ∙ ap (λ x. take i c.args.requests.now ++ x) (requests_of-one p)
          ∙ sym (take_more c.args.requests.now i (request.Hello 0 false) c.loop-request-test.true);
      told = c.in-Ok.ensures.items ∙ ap (λ x. x ++ p.answer ∷ []) inv.told ∙ append_assoc c.args.answers.now.items (answers_of inv.ps) (p.answer ∷ [])
          ∙ ap (λ x. c.args.answers.now.items ++ x) (sym (answers_of-append inv.ps (p ∷ []) ∙ ap (λ x. answers_of inv.ps ++ x) (answers_of-one p)));
    }
