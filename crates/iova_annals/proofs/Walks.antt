-- The names that proofs by hand cite, and the proof of an `ensures` with several clauses. Assumes
-- `Logic`.
pub use Rattle.std.proofs.Common.{◌≡◌, ℕ, ◌+◌, List, [], ◌∷◌, ◌++◌, length, take, drop as drop_front, sym, refl, w64}
use seplogic.Ra.Ura.{Ura}
pub use mir.Syntax.{a_type, named}
pub use mir.Val.{Val, vunit, vint, vptr, vstruct, vcons, vnil, of_list}
pub use mir.MapTy.{inst_fn}
pub use mathlib.Core.List.{IsPrefix}
use base.Logic.{ent, sep}
pub use base.Logic.{SProp, emp}
pub use base.Fml.{Fml, ftrue, fsep, feq, flft}
use types.Logic.{Logic}
use types.Kit.{join, done}
pub use types.Kit.{‵, raw, ◌⊛◌, some, given, later, ◌$◌, ◌∵◌, !, qed, by, move, keep, drop, split, fsplit, fsplit3, fjoin, fjoin3, fpack, pick, learn, use0, use1, use2, await, rewrite, feq_i}
pub use types.Run.{unit_lit, of_opd, no_more, and_then, returns, enter}
pub use types.ByLocal.{alloc_all, pass_all, free_all, look_at, get, sets}
pub use types.Part.{agg}
use contract.Monad.{fact_i}
pub use contract.Monad.{fact}
pub use contract.Running.{tables}
pub use denote.Exit.{yes}
pub use denote.RattleType.{RattleType, owns, Valss}
pub use denote.Signature.{types_at, plain}
pub use denote.Builtin.{RefOf, u64}
pub use denote.Ref.{mut_vals, mut_Tells, shr_vals, shr_Tells}
pub use denote.Plain.{uint_vals, uint_Tells}
pub use denote.Steps.{nothing, opens, closes}
pub use denote.Param.{param, layouts}
pub use denote.Triple.Walked.{Stays, stay_dropped, stay_ref, walk_of, Goes-dropped, Goes-ref}
pub use Rattle.atomic_table.proofs.Walks.{proved}
pub use Rattle.logbook.proofs.Fields.{token, Token, token_made, ends}

module _ {M : Type 1} {𝓤 : Ura M} (𝓛 : Logic 𝓤) (A : Type 0) where
  pub last : A → ent 𝓤 (emp 𝓤) (fact 𝓤 A)
  last a = fact_i 𝓤 A (emp 𝓤) a

  pub also : {Q : SProp 𝓤} → A → ent 𝓤 (emp 𝓤) Q → ent 𝓤 (emp 𝓤) (sep 𝓤 (fact 𝓤 A) Q)
  also {Q} a q = qed 𝓛 [] ∵ use0 𝓛 (raw Q) q $ use0 𝓛 (raw (fact 𝓤 A)) (last a) $ join ! $ done !
