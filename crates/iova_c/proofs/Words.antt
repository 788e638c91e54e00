-- The names of the logic that the walks by hand use, in one place.
pub use Rattle.std.proofs.Common.{◌≡◌, ℕ, ◌^◌, ◌<◌, length, List, [], ◌∷◌, ◌++◌, refl, sym, subst, w64, MutBor}
pub use base.Fraction.{full_share}
pub use mir.Syntax.{named}
pub use mir.Val.{Val, vint, vptr, vunit}
pub use base.Logic.{SProp, ent, sep, emp, ex, ex_i, never, id⊢}
pub use base.Fml.{Lft, GName, ftrue, flft, flent}
pub use prog.Wp.{WpFn}
pub use types.Logic.{Logic, sem}
pub use types.SemTy.{Body}
pub use types.Kit.{drop, feq_i, feq_l, suffices, ‵, raw, ◌⊛◌, some, later, ◌$◌, ◌∵◌, !, qed, by, move, keep, use0, use1, use2, use3, split, join, pick, fsplit, fjoin, await}
pub use types.Tokens.{lft_new, lft_end}
pub use types.Run.{stop, addr, of_opd, and_then, no_more, returns, enter}
pub use types.ByLocal.{alloc_all, pass_all, free_all, look_at, get, through, sets, lands_as}
pub use contract.Monad.{fact, fact_i}
pub use contract.Running.{tables}
pub use denote.Exit.{yes}
pub use denote.RattleType.{RattleType}
pub use denote.Laws.{Is, shows}
pub use denote.Memory.{part_at, mem}
pub use denote.Plain.{uint_vals, uint_Tells, uint_Makes, uint_Lawful, Nothing-Lawful}
pub use denote.Builtin.{u64}
pub use denote.Ref.{MutRef}
pub use denote.Lend.{lends_ref, ref_back}
pub use denote.RawPtr.{Ptr, block_ptr, RawPtr, rawptr_vals, rawptr_Tells, lies_at, in_a_block}
pub use denote.Signature.{plain}
pub use denote.Steps.{owned, peeks, heard, nothing}
pub use denote.Triple.Call.{calls_at}
pub use denote.Triple.Clauses.{Lasts, lasts}
pub use denote.Triple.Entry.{on_entry}
pub use denote.Triple.Spec.{triple_of}
pub use denote.Triple.Walked.{Stays, stay_dropped, walk_of, Goes-dropped}
pub use Rattle.std.proofs.raw_atomic.Calls.{fm}
pub use Rattle.std.proofs.raw_atomic.Walks.{proved, leaves}
