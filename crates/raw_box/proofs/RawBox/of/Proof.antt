-- `of`: the box gives its pointer and its allocator up, which become the two fields.
use Rattle.std.proofs.Common.{◌≡◌, List, [], ◌∷◌, ◌++◌, refl, ap, ◌∙◌}
use mir.Syntax.{a_type, dcons, dnil}
use mir.MapTy.{inst_fn}
use mir.Raw.{raw as bare}
use mir.Val.{Val, vptr, vstruct, of_list}
use base.Logic.{SProp, emp, never, id⊢, fst∗}
use base.Fml.{ftrue, flft}
use prog.Wp.{WpFn}
use contract.Monad.{fact, fact_i}
use contract.Running.{tables}
use types.ByLocal.{alloc_all, pass_all, free_all, look_at, get, get_in, sets, lands_as}
use types.Kit.{‵, raw, ◌⊛◌, some, later, ◌$◌, ◌∵◌, !, qed, by, move, keep, drop, split, split3, join, fsplit, fjoin, fpick, pick, suffices, use0, use1, await, rewrite, feq_l}
use types.Logic.{sem}
use types.Part.{agg, sub, whole}
use types.Run.{stop, fld, of_opd, no_more, and_then, returns, enter}
use denote.Builtin.{RawPtr}
use denote.Exit.{no}
use denote.Param.{param, layout, bounded}
use denote.Param.Laws.{param_laws}
use denote.RattleType.{RattleType, owns}
use denote.RawPtr.{Ptr, block_ptr, null_ptr, ptr_val, in_a_block}
use denote.Signature.{types_at, plain}
use denote.Steps.{nothing, only, heard}
use denote.Struct.Tuple.{Tuple}
use denote.Triple.Call.{calls_at}
use denote.Triple.Clauses.{Lasts, lasts}
use denote.Triple.Spec.{triple_of}
use denote.Triple.Table.{framed}
use denote.Triple.Walked.{Stays, stay_dropped, walk_of}
use Rattle.std.specs.Box.Ownership.{box_owns}
use Rattle.std.proofs.alloc.Calls.{Goes-blank, handle_tells}
use Rattle.std.proofs.BoxSteps.Form as box
use Rattle.std.proofs.BoxSteps.Steps.{box_out, box_in}
use Rattle.std.proofs.raw_atomic.Walks.{proved_at, leaves}
use Rattle.std.specs.contracts.boxed.Box.into_raw_with_allocator as callee
use Rattle.std.proofs.boxed.Box.into_raw_with_allocator.Met.{met}
use Rattle.raw_box.proofs.Begun.{begun}
use Rattle.raw_box.proofs.Values.{both, raw_box_good, raw_box_in}
use Rattle.raw_box.specs.contracts.RawBox.of.{ended, clauses}
use Rattle.raw_box.specs.contracts.RawBox.of.Key.{name as #self}
use Rattle.raw_box.proofs.RawBox.of.Statement.{statement}
use Rattle.raw_box.proofs.RawBox.of.Code as code

pub of_spec : {M : Type 1} → statement M
of_spec 𝓤 𝓛 𝓜 𝓡 wired T A L LA g d dx dd allocator glue glued =
    let H = 𝓛.H in let 𝓣 = tables 𝓤 H 𝓜 𝓡 𝓡.env in let R : RattleType = param 0 T in let Z : RattleType = param 1 A in let LZ = param_laws 1 A LA in
    let at_types = bounded (a_type ∷ a_type ∷ []) (T, (A, tt)) (dcons d (dcons dx (dcons dd dnil))) in let f = inst_fn at_types code.function in
    let E : box.Bx = record { row = T; laws = L; al = record { row = A; laws = LA; g = g; d = d; drops = dd } } in
    let Ended = ended T A g d dx dd in let c = clauses T A g d dx dd 𝓛 𝓜.mem 𝓡.returns in let given = plain (λ _. box.B E) in
    let stays : Stays Ended.signature.params Ended.kept = (stay_dropped given no, tt) in
    let Takes = triple_of 𝓛 (callee.signature T A g d dd dx) (callee.spec T A g d dd dx 𝓛 𝓜.mem 𝓡.returns) in let Pair = Tuple (RawPtr ∷ Z ∷ []) in
    proved_at 𝓛 Ended stays c 𝓜 𝓡 (Goes-blank 𝓛 2 given no (λ κs x w. tt), tt) (#self at_types) f (code.unfolded 𝓤 H 𝓜 𝓡 wired (T, (A, tt)) d dx dd) (λ y are.
    let κs = y.0.0 in let qs = y.0.1 in let b = y.0.3.0 in let Post : Val → SProp 𝓤 = (walk_of 𝓛 Ended stays c).post y in let Run : List Val → SProp 𝓤 = λ ws. WpFn 𝓤 H 𝓣.C 𝓣.Λ f ws Post in
    let tokens = ‵ (flft κs.0 qs.0) ⊛ ‵ (flft κs.1.0 qs.1.0) ⊛ ‵ ftrue in
    qed 𝓛 ((tokens ⊛ ‵ (owns (types_at Ended.signature.params κs) y.0.3 y.0.4)) ∷ raw ((c κs y.0.3).requires y.1) ∷ []) ∵
    split ! $ move ! (1 ∷ []) $ fsplit ! $ box_out E ! b y.0.4.0 (λ k o h lies word fits. box_in E ! b k o b.value lies refl $
    -- [the box; no other parameter; the tokens; what is required]
    let w : Val = box.word E h k o in let typed = raw_box_good R Z LZ g (block_ptr k o) h fits in
    let z : Takes.Ghost = ((κs, qs, tt, (b, tt), (w ∷ [], tt)), tt) in
    fjoin ! $ move ! (1 ∷ 0 ∷ []) $ join ! $ join ! $ use1 𝓛 (raw (Takes.pre z)) (id⊢ 𝓤 _) $
    suffices ! (Run (w ∷ [])) (begun 𝓤 Run y.0.4.0 w word) $ enter ! 𝓣.C 𝓣.Λ f (w ∷ []) Post $ alloc_all ! (λ l. pass_all ! refl (typed, tt) $
    sets ! (of_opd ! (get ! refl)) refl typed $
    calls_at ! (framed 𝓤 H 𝓜 𝓣) Takes (met 𝓤 𝓛 𝓜 𝓡 (code.calls-std::boxed::Box::into_raw_with_allocator 𝓡.env wired) T A L LA g d dd dx allocator glued glue) z (and_then ! (get ! refl) (no_more !)) (λ v.
    use1 𝓛 (later (some (λ (r : Ptr × A.Denot). (tokens ⊛ ‵ (Pair.own_val r (v ∷ []))) ⊛ some (λ (ws : Lasts (callee.ended T A g d dd dx) κs z.0.3). ‵ (lasts (callee.ended T A g d dd dx) κs z.0.3 ws)
    ⊛ (raw (fact 𝓤 (r.1 ≡ b.alloc)) ⊛ ‵ (box_owns (g.dealloc_token b.alloc) R r.0 b.value)))))) (id⊢ 𝓤 _) $
    await ! tt $ pick ! (λ r. split ! $ move ! (1 ∷ []) $ pick ! (λ ws. split3 ! $ drop ! $ heard ! (r.1 ≡ b.alloc) (λ same.
    in_a_block ! r.0 (λ p. box_owns (g.dealloc_token b.alloc) R p b.value) (fst∗ 𝓤 (never 𝓤) (sem 𝓛 (g.dealloc_token b.alloc (bare (layout T)) null_ptr))) (λ k' o' lies'.
    -- [the block; the tokens and the pair; the locals]
    move ! (1 ∷ []) $ split ! $ move ! (1 ∷ []) $ fpick ! (λ vss. fsplit ! $ feq_l ! (λ pair. fsplit ! $ feq_l ! (λ pointer. fsplit ! $
    rewrite ! 0 (λ (a : A.Denot). ‵ (A.own_val a vss.1.0)) same refl $ handle_tells E.al ! b.alloc vss.1.0 (λ h' handle fits'.
    let made = raw_box_good R Z LZ g (block_ptr k' o') h' fits' in let at' : vss.0 ≡ vptr k' o' ∷ [] = pointer ∙ ap (λ (p : Ptr). ptr_val p ∷ []) lies' in
    lands_as ! (ap only (pair ∙ (λ i. vstruct (of_list (at' i ++ (handle i ++ []))) ∷ []))) refl made $
    sets ! (of_opd ! (get_in ! (fld ! refl (stop !)) (sub ! 0 refl (whole !)))) refl (tt, tt) $
    sets ! (of_opd ! (get_in ! (fld ! refl (stop !)) (sub ! 1 refl (whole !)))) refl fits' $
    sets ! (of_opd ! (get ! refl)) refl fits' $
    sets ! (agg ! (and_then ! (get ! refl) (and_then ! (get ! refl) (no_more !)))) refl made $
    move ! (3 ∷ 0 ∷ []) $ raw_box_in R Z LZ g ! (block_ptr k' o') h' b.alloc b.value $
    use0 𝓛 (raw (fact 𝓤 (b.value ≡ b.value))) (fact_i 𝓤 (b.value ≡ b.value) (emp 𝓤) refl) $ nothing ! $ nothing ! $ fjoin ! $
    returns ! (look_at ! 0 refl) $ free_all ! refl $ keep ! (4 ∷ 0 ∷ 2 ∷ 1 ∷ []) $
    by ! (leaves 𝓛 Ended stays c y (both (vptr k' o') h') (record { at = block_ptr k' o'; alloc = b.alloc; value = b.value }) ((tt, (tt, tt)), tt) (tt, tt))))))))))))))
