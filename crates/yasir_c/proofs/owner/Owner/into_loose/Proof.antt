-- `into_loose` gives the pointer back, and what it owns.
use Rattle.std.proofs.Common.{◌≡◌, List, [], ◌∷◌, ◌++◌, refl, sym, subst}
use mir.Val.{Val, vptr}
use base.Logic.{SProp, ent, emp, id⊢}
use prog.Wp.{WpFn}
use types.Kit.{‵, raw, ◌⊛◌, ◌$◌, ◌∵◌, !, qed, by, move, keep, split, fjoin, suffices, use0, rewrite}
use types.Run.{stop, fld, of_opd, no_more, and_then, returns, enter}
use types.ByLocal.{alloc_all, pass_all, free_all, look_at, get, get_in, sets}
use types.Part.{agg, sub, whole}
use contract.Monad.{fact, fact_i}
use contract.Running.{tables}
use denote.RattleType.{RattleType, owns}
use denote.RawPtr.{Ptr, block_ptr}
use denote.Signature.{types_at, plain}
use denote.Steps.{nothing}
use denote.Triple.Entry.{alive}
use denote.Triple.Walked.{Stays, stay_dropped, walk_of, Goes-dropped}
use Rattle.{core.proofs.alloc.Calls.Goes-blank, std.proofs.raw_atomic.Walks.proved_at}
use Rattle.std.{proofs.raw_atomic.Walks.leaves, specs.Prelude.Option, specs.Prelude.Some}
use mir.Raw.{raw as bare}
use base.Logic.{never, fst∗}
use types.Logic.{sem}
use types.Kit.{fsplit3, fpick}
use denote.Steps.{heard}
use denote.Memory.{lone}
use denote.RawPtr.{null_ptr, in_a_block}
use Rattle.{core.proofs.alloc.Calls.handle_tells, std.specs.Box.Ownership.box_owns}
use Rattle.yasir_c.{proofs.Values.al, specs.Owning.owner_owns, specs.declared.held.Held.Held}
use Rattle.yasir_c.specs.contracts.owner.Owner as owner
use Rattle.yasir_c.proofs.Owners.{word, word_good, owner_out}
use Rattle.std.specs.contracts.alloc.Global as heap
use Rattle.std.proofs.alloc.Global.TheLaws as heap_laws
use Rattle.std.specs.contracts.impls.GlobalAllocator.TheImpl.{ghosts}
use Rattle.yasir_c.proofs.Values.{both, loose_good, loose_in}
use Rattle.yasir_c.specs.contracts.held.Held as state
use Rattle.yasir_c.proofs.owner.Owner.into_loose.Statement.{statement}
use Rattle.yasir_c.specs.contracts.owner.Owner.into_loose.{ended, clauses, Key.name as #self}
use Rattle.yasir_c.proofs.owner.Owner.into_loose.Code as code

pub into_loose_spec : {M : Type 1} → statement M
into_loose_spec 𝓤 𝓛 𝓜 𝓡 wired =
    let H = 𝓛.H in let 𝓣 = tables 𝓤 H 𝓜 𝓡 𝓡.env in let R : RattleType = state.the_row in let Z : RattleType = heap.the_row in let LZ = heap_laws.the_row_laws in
    let En = ended in let c = clauses 𝓛 𝓜.mem 𝓡.returns in let fn = code.function in
    let hs : Stays En.signature.params En.kept = (stay_dropped (plain (λ _. owner.the_row)) En.kept.0, (stay_dropped (plain (λ _. Z)) En.kept.1.0, tt)) in
    proved_at 𝓛 En hs c 𝓜 𝓡 (Goes-blank 𝓛 0 (plain (λ _. owner.the_row)) En.kept.0 (λ κs x f. tt), (Goes-dropped 𝓛 0 (plain (λ _. Z)) En.kept.1.0 (λ κs x f. refl), tt)) #self fn (code.unfolded 𝓤 H 𝓜 𝓡 wired) (λ z are.
    let Post : Val → SProp 𝓤 = (walk_of 𝓛 En hs c).post z in let Run : List Val → SProp 𝓤 = λ ws. WpFn 𝓤 H 𝓣.C 𝓣.Λ fn ws Post in
    let d = z.0.3.0 in let a = z.0.3.1.0 in let Has = (x : Held) × (d.value ≡ Some x) in
    qed 𝓛 ((raw (alive 𝓛 En.signature z.0.0 z.0.1) ⊛ ‵ (owns (types_at En.signature.params z.0.0) z.0.3 z.0.4)) ∷ raw (fact 𝓤 Has) ∷ []) ∵
    move ! (1 ∷ []) $ heard ! Has (λ has. split ! $ move ! (1 ∷ []) $ fsplit3 ! $ owner_out ! d z.0.4.0 (λ ws.
    rewrite ! 0 (λ (o : Option Held). ‵ (owner_owns d.at o)) has.1 refl $
    fpick ! (λ freed. in_a_block ! d.at (λ p. box_owns (ghosts.dealloc_token freed) R p has.0) (fst∗ 𝓤 (never 𝓤) (sem 𝓛 (ghosts.dealloc_token freed (bare (lone R.mir)) null_ptr))) (λ b o e.
    move ! (1 ∷ []) $ handle_tells (al R Z LZ ghosts) ! a z.0.4.1.0 (λ h eh fits.
    let w : Val = word (block_ptr b o) in let ws' : z.0.4.0 ≡ w ∷ [] = subst (λ (p : Ptr). z.0.4.0 ≡ word p ∷ []) e ws in
    suffices ! (Run (w ∷ h ∷ [])) (subst (λ (us : List Val). ent 𝓤 (Run (w ∷ h ∷ [])) (Run us)) (sym (λ i. ws' i ++ (eh i ++ []))) (id⊢ 𝓤 (Run (w ∷ h ∷ [])))) $
    enter ! 𝓣.C 𝓣.Λ fn (w ∷ h ∷ []) Post $ alloc_all ! (λ l. pass_all ! refl (word_good (block_ptr b o), (fits, tt)) $
    sets ! (of_opd ! (get_in ! (fld ! refl (stop !)) (sub ! 0 refl (whole !)))) refl (tt, tt) $
    sets ! (of_opd ! (get ! refl)) refl (tt, tt) $
    sets ! (agg ! (and_then ! (get ! refl) (and_then ! (get ! refl) (no_more !)))) refl (loose_good R Z LZ ghosts b o h fits) $
    returns ! (look_at ! 0 refl) $ free_all ! refl $
    move ! (1 ∷ 0 ∷ []) $ loose_in R Z LZ ghosts ! b o h a has.0 $
    use0 𝓛 (raw (fact 𝓤 (d.value ≡ Some has.0))) (fact_i 𝓤 (d.value ≡ Some has.0) (emp 𝓤) has.1) $
    nothing ! $ nothing ! $ fjoin ! $ nothing ! $ fjoin ! $ keep ! (4 ∷ 0 ∷ 2 ∷ 1 ∷ []) $
    by ! (leaves 𝓛 En hs c z (both (vptr b o) h) (record { at = block_ptr b o; alloc = a; value = has.0 }) (_, (_, tt)) (tt, (tt, tt))))))))))
