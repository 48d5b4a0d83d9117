-- `into_raw` takes the block from a handle that has one.
use Rattle.std.proofs.Common.{◌≡◌, true, false, List, [], ◌∷◌, ◌++◌, refl, sym, ap, ◌∙◌, subst, lit<}
use mir.Val.{Val, vptr, vcons, vnil}
use base.Logic.{SProp, ent, emp, id⊢}
use base.Fml.{ftrue}
use prog.Wp.{WpFn}
use types.Kit.{‵, raw, ◌⊛◌, at_ret, ◌$◌, ◌∵◌, !, qed, by, move, keep, split, fsplit, fjoin, suffices, use0, use1}
use types.Run.{stop, fld, lit, of_opd, bin, no_more, and_then, first, branches, exec, returns, enter}
use types.ByLocal.{alloc_all, pass_all, free_all, look_at, get, get_in, sets, sets_last, env}
use types.Part.{agg, sub, whole}
use types.Match.{live}
use contract.Monad.{fact, fact_i}
use contract.Running.{tables}
use denote.Exit.{yes}
use denote.RattleType.{RattleType, owns}
use denote.Signature.{types_at, type_at, plain}
use denote.RawPtr.{Ptr, block_ptr, null_ptr, ptr_val, tests_null}
use denote.Steps.{nothing}
use denote.Param.{layout}
use denote.Triple.Walked.{Stays, stay_dropped, walk_of, Goes-dropped}
use Rattle.std.specs.declared.option.Option.TheVariants.{None, Some}
use Rattle.std.proofs.alloc.Global.TheLaws as heap_laws
use Rattle.std.specs.contracts.impls.GlobalAllocator.TheImpl.{ghosts}
use Rattle.std.proofs.cell.Inside.{Good}
use Rattle.std.proofs.option.Made.{Some-of, none_of}
use Rattle.std.proofs.raw_atomic.Walks.{proved_at, leaves}
use Rattle.std.proofs.ResultValues.{and_tt}
use Rattle.consumer.specs.contracts.Consumer.{the_row as R}
use Rattle.raw_box.proofs.Values.{both, RawBox, ptr_good, raw_box_good, raw_box_in}
use Rattle.raw_box.specs.Owned.{is_none_at}
use Rattle.raw_box.proofs.Owned.{owned_by_cases}
use Rattle.keycount_c.proofs.ConsumerValues.{Z, ConsumerHandle, handle_out, handle_good}
use Rattle.keycount_c.specs.contracts.member.handle.ConsumerHandle.into_raw.{ended, clauses}
use Rattle.keycount_c.specs.contracts.member.handle.ConsumerHandle.into_raw.Key.{name as #self}
use Rattle.keycount_c.proofs.member.handle.ConsumerHandle.into_raw.Statement.{statement}
use Rattle.keycount_c.proofs.member.handle.ConsumerHandle.into_raw.Code as code

pub into_raw_spec : {M : Type 1} → statement M
into_raw_spec 𝓤 𝓛 𝓜 𝓡 wired =
    let H = 𝓛.H in let 𝓣 = tables 𝓤 H 𝓜 𝓡 𝓡.env in let c = clauses 𝓛 𝓜.mem 𝓡.returns in let B : RattleType = RawBox R Z heap_laws.the_row_laws ghosts in
    let hs : Stays ended.signature.params ended.kept = (stay_dropped (plain (λ _. ConsumerHandle)) yes, tt) in
    proved_at 𝓛 ended hs c 𝓜 𝓡 (Goes-dropped 𝓛 0 (plain (λ _. ConsumerHandle)) yes (λ κs x f. refl), tt) #self code.function (code.unfolded 𝓤 H 𝓜 𝓡 wired) (λ z are.
    let κs = z.0.0 in let g = z.0.3.0 in let Post : Val → SProp 𝓤 = (walk_of 𝓛 ended hs c).post z in let Run : List Val → SProp 𝓤 = λ ws. WpFn 𝓤 H 𝓣.C 𝓣.Λ code.function ws Post in let Out : RattleType = type_at ended.signature.result κs in
    let from : (w : Val) → z.0.4.0 ≡ w ∷ [] → ent 𝓤 (Run (w ∷ [])) (Run (z.0.4.0 ++ [])) = λ w e. subst (λ (us : List Val). ent 𝓤 (Run (w ∷ [])) (Run us)) (sym (λ i. e i ++ [])) (id⊢ 𝓤 (Run (w ∷ []))) in
    qed 𝓛 ((‵ ftrue ⊛ ‵ (owns (types_at ended.signature.params κs) z.0.3 z.0.4)) ∷ raw ((c κs z.0.3).requires z.1) ∷ []) ∵ split ! $ move ! (1 ∷ []) $ fsplit ! $
    handle_out ! g z.0.4.0 (λ h ws fits. owned_by_cases R g.alloc ! g.at g.state
    (λ is. let w : Val = both (ptr_val null_ptr) h in let none : Val = live 0 vnil in let good : Good (layout Out) none = (tt, (record { fits = lit< tt }, tt)) in
    suffices ! (Run (w ∷ [])) (from w (ws ∙ ap (λ (p : Ptr). both (ptr_val p) h ∷ []) is)) $
    enter ! 𝓣.C 𝓣.Λ code.function (w ∷ []) Post $ alloc_all ! (λ l. pass_all ! refl (handle_good null_ptr h fits, tt) $ let Ev = env code.function.locals l in
    sets ! (of_opd ! (get_in ! (fld ! refl (stop !)) (sub ! 0 refl (whole !)))) refl (ptr_good null_ptr) $ sets ! (of_opd ! (get_in ! (fld ! refl (stop !)) (sub ! 1 refl (whole !)))) refl fits $
    sets ! (bin ! (get ! refl) (lit ! tt) tt) refl (tt, tt) $ first ! $ branches ! (get ! refl)
    (λ _. sets_last ! (agg ! (and_then ! (lit ! tt) (no_more !))) refl good $ exec ! 𝓣.C 𝓣.Λ Ev code.Mir.t-5 (at_ret Ev Post) $ sets ! (of_opd ! (get ! refl)) refl good $
    use0 𝓛 (‵ (Out.own_val None (none ∷ []))) (none_of 𝓛 B) $ use0 𝓛 (raw (fact 𝓤 (is_none_at g.at ≡ true))) (fact_i 𝓤 (is_none_at g.at ≡ true) (emp 𝓤) (ap is_none_at is)) $ nothing ! $ nothing ! $ fjoin ! $
    returns ! (look_at ! 0 refl) $ free_all ! refl $ keep ! (6 ∷ 0 ∷ 2 ∷ 1 ∷ []) $ by ! (leaves 𝓛 ended hs c z none None (tt, tt) (tt, tt)))
    (λ wrong. absurd wrong)))
    (λ b o is t. let w : Val = both (vptr b o) h in let typed = raw_box_good R Z heap_laws.the_row_laws ghosts (block_ptr b o) h fits in let some : Val = live 1 (vcons w vnil) in
    let box : B.Denot = record { at = block_ptr b o; alloc = g.alloc; value = g.state } in let good : Good (layout Out) some = (and_tt _ typed.0, (record { fits = lit< tt }, (typed.1, tt))) in
    let said : Type 0 = (is_none_at g.at ≡ false) × (g.state ≡ g.state) in
    suffices ! (Run (w ∷ [])) (from w (ws ∙ ap (λ (p : Ptr). both (ptr_val p) h ∷ []) is)) $
    enter ! 𝓣.C 𝓣.Λ code.function (w ∷ []) Post $ alloc_all ! (λ l. pass_all ! refl (handle_good (block_ptr b o) h fits, tt) $ let Ev = env code.function.locals l in
    sets ! (of_opd ! (get_in ! (fld ! refl (stop !)) (sub ! 0 refl (whole !)))) refl (tt, tt) $ sets ! (of_opd ! (get_in ! (fld ! refl (stop !)) (sub ! 1 refl (whole !)))) refl fits $
    sets ! (bin ! (get ! refl) (lit ! tt) (tests_null (block_ptr b o) t)) refl (tt, tt) $ first ! $ branches ! (get ! refl)
    (λ wrong. absurd wrong)
    (λ _. sets ! (of_opd ! (get ! refl)) refl (tt, tt) $ sets ! (agg ! (and_then ! (get ! refl) (and_then ! (get ! refl) (no_more !)))) refl typed $
    sets_last ! (agg ! (and_then ! (lit ! tt) (and_then ! (get ! refl) (no_more !)))) refl good $ exec ! 𝓣.C 𝓣.Λ Ev code.Mir.t-5 (at_ret Ev Post) $ sets ! (of_opd ! (get ! refl)) refl good $
    raw_box_in R Z heap_laws.the_row_laws ghosts ! (block_ptr b o) h g.alloc g.state $ use1 𝓛 (‵ (Out.own_val (Some box) (some ∷ []))) (Some-of 𝓛 B box w) $
    use0 𝓛 (raw (fact 𝓤 said)) (fact_i 𝓤 said (emp 𝓤) (ap is_none_at is, refl)) $ nothing ! $ nothing ! $ fjoin ! $
    returns ! (look_at ! 0 refl) $ free_all ! refl $ keep ! (4 ∷ 0 ∷ 2 ∷ 1 ∷ []) $ by ! (leaves 𝓛 ended hs c z some (Some box) (tt, tt) (tt, tt)))))))
