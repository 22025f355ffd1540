-- A direct call on a store unmakes no point.
use Rattle.std.specs.Prelude.{ℕ, ◌≤◌, ltb, Float, Err, Ok, Result, ⊤}
use Rattle.std.proofs.Common.{arith}
use Rattle.control_point.specs.Connect.{connectable}
use Rattle.control_point.specs.Point.{side_of, is_border, is_made}
use Rattle.control_point.specs.declared.t_mesh_direction.TmeshDirection.{TmeshDirection}
use Rattle.control_point.specs.declared.t_mesh_control_point.Side.{Side}
use Rattle.control_point.specs.declared.t_mesh_control_point.Side.TheVariants.{Link, Border, Opening}
use Rattle.counting.proofs.BoolLaws.{cond_case}
use Rattle.mirror.specs.Calls.{Call, make_loose_call, connect, remove_connection_call, remove_edge_condition_call, set_edge_con_weight_call, set_knot_coordinates_call, navigate_until_con_call, read_side_call, read_point_call, call_store}
use Rattle.store.specs.Store.{store_sides, store_point, linked, settled, opened, weighted, all_borders, make_loose, connect_points, remove_connection, remove_edge_condition, set_edge_con_weight, set_knot_coordinates}
use Rattle.store.specs.declared.store.Changed.{Changed}
use Rattle.store.specs.declared.store.Store.{Store}
use Rattle.control_point.specs.declared.refusal.Refusal.{Refusal}

module _ (store : Store) where
  abbrev Grows : Changed → Type 0
  Grows changed = store.made ≤ changed.store.made

  same : store.made ≤ store.made
  same = omega arith

  by_outcome : (outcome : Result ⊤ Refusal) (new : Store) → store.made ≤ new.made → Grows (settled outcome new store)
  by_outcome (Ok tt) new more = more
  by_outcome (Err refusal) new more = same

  by_opened : (n : ℕ) (d : TmeshDirection) (side : Side) → Grows (opened store n d side)
  by_opened n d (Link m interval) = cond_case (is_made store.made m) Grows _ _ (λ _. same) (λ _. same)
  by_opened n d (Border weight) = same
  by_opened n d Opening = same

  by_weighted : (n : ℕ) (d : TmeshDirection) (weight : Float) (side : Side) → Grows (weighted store n d weight side)
  by_weighted n d weight (Link m interval) = same
  by_weighted n d weight (Border old) = same
  by_weighted n d weight Opening = same

  pub call_grows : (call : Call) → store.made ≤ (call_store store call).made
  unfolding make_loose connect_points remove_connection remove_edge_condition set_edge_con_weight set_knot_coordinates
  call_grows (make_loose_call weight) = cond_case (ltb store.made 128) Grows _ _ (λ _. omega arith) (λ _. same)
  call_grows (connect first other d interval) =
      by_outcome (connectable (store_sides store) store.made first other d) (linked store first other d interval) same
  call_grows (remove_connection_call n d) =
      cond_case (is_made store.made n) Grows _ _ (λ _. by_opened n d (side_of (store_point store n) d)) (λ _. same)
  call_grows (remove_edge_condition_call n d) =
      cond_case (is_made store.made n) Grows _ _
      (λ _. cond_case (is_border (side_of (store_point store n) d)) Grows _ _ (λ _. same) (λ _. same))
      (λ _. same)
  call_grows (set_edge_con_weight_call n d weight) =
      cond_case (is_made store.made n) Grows _ _ (λ _. by_weighted n d weight (side_of (store_point store n) d)) (λ _. same)
  call_grows (set_knot_coordinates_call n s t) =
      cond_case (is_made store.made n) Grows _ _ (λ _. cond_case (all_borders (store_point store n)) Grows _ _ (λ _. same) (λ _. same)) (λ _. same)
  call_grows (navigate_until_con_call start travel watch) = same
  call_grows (read_side_call n d) = same
  call_grows (read_point_call n) = same
