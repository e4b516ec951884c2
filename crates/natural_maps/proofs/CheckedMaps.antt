-- The three searches for the fault of a listed map, one after the other.
use Rattle.std.proofs.Common.{◌≡◌, ℕ, length, get_or, Option, None, sym, ap, ◌∙◌, arith}
use Rattle.std.specs.Option.{option_map}
use Rattle.finite_lists.specs.First.{first}
use Rattle.finite_lists.proofs.Lists.{In_at}
use Rattle.finite_lists.proofs.FirstAnswers.{first_none_each}
use Rattle.topos_model.specs.declared.raw.RawEntry.{RawEntry}
use Rattle.topos_model.specs.declared.raw.RawMap.{RawMap}
use Rattle.topos_model.specs.categories.Category.{Category}
use Rattle.topos_model.specs.types.Types.{Presheaf}
use Rattle.topos_model.specs.presheaves.Maps.{Components}
use Rattle.topos_model.specs.presheaves.MapFaults.{entry_fault, listed_map, map_total_fault, naturality_fault, map_fault, IsMapListing}
use Rattle.natural_maps.specs.declared.fault.MapFault.{MapFault}
use Rattle.natural_maps.specs.Faults.{IsFound}
use Rattle.natural_maps.specs.Images.{AreWithin}
use Rattle.natural_maps.specs.Components.{failing_square}
use Rattle.natural_maps.proofs.ListedComponents.{known_entry, first_of_three, second_of_three, third_of_three}
use Rattle.natural_maps.proofs.FailingSquares.{square_fault, naturality_is}

module _ (k : Category) (P Q : Presheaf) (raw : RawMap) where
  pub entry_found : (fault : MapFault) → IsFound (first (entry_fault P Q) raw.entries) fault → IsFound (map_fault k P Q raw) fault
  unfolding map_fault
  entry_found fault is = first_of_three (first (entry_fault P Q) raw.entries) (map_total_fault k P raw) (naturality_fault k P Q (listed_map k P raw)) fault is

  pub entries_within : IsMapListing k raw → length P.sizes ≡ k.objects → first (entry_fault P Q) raw.entries ≡ None → AreWithin P.sizes raw.entries
  entries_within ok objects known i d low =
      let e : RawEntry = get_or raw.entries i d in
      (omega (arith, ok.objects e (In_at raw.entries i d low), objects), (known_entry P Q e (first_none_each (entry_fault P Q) raw.entries e known (In_at raw.entries i d low))).0)

  module _ (known : first (entry_fault P Q) raw.entries ≡ None) where
    pub total_found : (fault : MapFault) → IsFound (map_total_fault k P raw) fault → IsFound (map_fault k P Q raw) fault
    unfolding map_fault
    total_found fault is = second_of_three (first (entry_fault P Q) raw.entries) (map_total_fault k P raw) (naturality_fault k P Q (listed_map k P raw)) fault known is

    module _ (total : map_total_fault k P raw ≡ None) where
      pub naturality_decides : map_fault k P Q raw ≡ naturality_fault k P Q (listed_map k P raw)
      unfolding map_fault
      naturality_decides = third_of_three (first (entry_fault P Q) raw.entries) (map_total_fault k P raw) (naturality_fault k P Q (listed_map k P raw)) known total

      pub square_decides : (m : Components) (found : Option (ℕ × ℕ)) → m ≡ listed_map k P raw → failing_square k P Q m ≡ found → map_fault k P Q raw ≡ option_map square_fault found
      square_decides m found is e =
          naturality_decides ∙ ap (naturality_fault k P Q) (sym is) ∙ sym (naturality_is k P Q m) ∙ ap (option_map square_fault) e
