-- The machine value of a `ConsumerHandle`, taken apart and put together. Assumes `Logic`.
use Rattle.std.proofs.Common.{◌≡◌, List, [], ◌∷◌, ◌++◌, refl, ◌∙◌}
use seplogic.Ra.Ura.{Ura}
use mir.Syntax.{impl, tnil, dnil}
use mir.Val.{Val, vstruct, of_list}
use types.Logic.{Logic}
use types.Kit.{Item, Goal, Seq, Step, step, ‵, ◌$◌, move, drop, fsplit, fjoin, fpick, fpack, feq_i, feq_l}
use denote.RattleType.{RattleType, Valss}
use denote.Builtin.{RawPtr}
use denote.RawPtr.{Ptr, ptr_val}
use denote.Steps.{nothing}
use denote.Param.{layout}
use denote.Struct.Struct.{within}
use denote.Struct.Owning.{shape}
use Rattle.std.specs.declared.alloc.Global.{Global}
use Rattle.std.specs.contracts.alloc.Global as heap
use Rattle.std.specs.contracts.impls.GlobalAllocator.TheImpl.{ghosts}
use Rattle.std.proofs.alloc.Global.TheLaws as heap_laws
use Rattle.std.proofs.alloc.Calls.{Al, handle_tells}
use Rattle.std.proofs.cell.Inside.{Good}
use Rattle.consumer.specs.Consumer.{ConsumerState, out_of_group}
use Rattle.consumer.specs.contracts.Consumer.{the_row as R}
use Rattle.raw_box.specs.Owned.{owned}
use Rattle.raw_box.proofs.Values.{both, raw_box_good}
use Rattle.keycount_c.specs.contracts.member.handle.ConsumerHandle as handle

-- what stands in a handle that has no consumer
abbrev pub nothing_yet : ConsumerState
nothing_yet = out_of_group 0

abbrev pub ConsumerHandle : RattleType
ConsumerHandle = handle.the_row

-- the allocator
abbrev pub Z : RattleType
Z = heap.the_row

abbrev pub al : Al
al = record { row = Z; laws = heap_laws.the_row_laws; g = ghosts; d = impl [] tnil dnil; drops = impl [] tnil dnil }

pub handle_good : (p : Ptr) (h : Val) → Good (layout Z) h → Good (layout ConsumerHandle) (both (ptr_val p) h)
handle_good = raw_box_good R Z heap_laws.the_row_laws ghosts

module _ {M : Type 1} {𝓤 : Ura M} {𝓛 : Logic 𝓤} {K : Type 0} {Γ : List (Item 𝓤)} {G : Goal 𝓤 𝓛.H} where
  pub handle_out : K → (d : ConsumerHandle.Denot) (vs : List Val)
      → ((h : Val) → vs ≡ both (ptr_val d.at) h ∷ [] → Good (layout Z) h → Seq K 𝓛 (‵ (owned R d.alloc d.at d.state) ∷ ‵ (Z.own_val d.alloc (h ∷ [])) ∷ Γ) G)
      → Seq K 𝓛 (‵ (ConsumerHandle.own_val d vs) ∷ Γ) G
  handle_out t d vs k =
      fsplit t $ fpick t (λ vss. fsplit t $ feq_l t (λ ev. fsplit t $ feq_l t (λ ep. fsplit t $ handle_tells al t d.alloc vss.1.0 (λ h ea fits. move t (1 ∷ []) $ drop t $ move t (1 ∷ []) $
      k h (ev ∙ (λ i. vstruct (of_list (ep i ++ (ea i ++ []))) ∷ [])) fits))))

  pub handle_in : K → (p : Ptr) (h : Val) (a : Global) (s : ConsumerState)
      → Step K 𝓛 (‵ (ConsumerHandle.own_val (record { at = p; alloc = a; state = s }) (both (ptr_val p) h ∷ [])) ∷ Γ) G (‵ (owned R a p s) ∷ ‵ (Z.own_val a (h ∷ [])) ∷ Γ) G
  handle_in t p h a s = step (λ k. let v : Val = both (ptr_val p) h in
      nothing t $ move t (2 ∷ 0 ∷ []) $ fjoin t $ feq_i t (List Val) (ptr_val p ∷ []) (ptr_val p ∷ []) refl $ fjoin t $ feq_i t (List Val) (v ∷ []) (v ∷ []) refl $ fjoin t $
      fpack t (Valss (RawPtr ∷ Z ∷ [])) (within (shape handle.the_type) _ (v ∷ [])) (ptr_val p ∷ [], (h ∷ [], tt)) $ fjoin t $ k)
