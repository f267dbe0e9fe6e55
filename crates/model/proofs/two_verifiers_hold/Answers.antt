use Rattle.std.proofs.Common.{◌≡◌, [], ◌∷◌, length, Some, None, refl}
use Rattle.model.specs.Sha256.{sha256, and_bits, xor_bits, extend_schedule, rounds, be_words, compress}
use Rattle.model.specs.Records.{data_record, pick, same_bytes, less_bytes, bits, bits_of_bytes, below, side, path_of, is_data, children_of, same_value, is_absent, is_initial, le_bytes, le_number, pointer_bytes, value_bytes, merkle_bytes, record_bytes}
use Rattle.model.specs.Verifier.{add_merkle, add_blum, evict_merkle, verify_epoch, get, find, nonempty, without, updated, found_by_merkle, points_at_merkle, add_merkle_at, add_merkle_under, evict_merkle_at, evict_merkle_under, same_flag, evict_blum_step, evict_blum_merkle_at, evict_blum_merkle_under, has_key, has_value, get_step, set_step, verifier_step}
use Rattle.model.specs.Monitor.{logged, wrong, right, certified, new_verifiers, verifier_at, with_verifier, sum_at, with_sum, add_elements, evict_elements, all_done, certify, entry_code, are_bits, good_pointer, good_value, good_record, good_entry, epoch_named, refusal, place_of, by_step, performed, respond, state}
use Rattle.model.specs.Order.{in_epochs_below}
use Rattle.model.specs.TwoVerifiers.{limits, b, d, x, y, above_both, at, one_key, two_keys, handed_over, given_back, one_done, said}
use Rattle.model.proofs.two_verifiers_hold.Goals as goal

not_below : said one_key (logged 0 (add_merkle (data_record b None) [])) ≡ wrong
unfolding sha256 and_bits xor_bits extend_schedule rounds be_words compress pick same_bytes less_bytes bits bits_of_bytes below side path_of is_data children_of same_value is_absent is_initial le_bytes le_number pointer_bytes value_bytes merkle_bytes record_bytes find nonempty without updated found_by_merkle points_at_merkle add_merkle_at add_merkle_under evict_merkle_at evict_merkle_under same_flag evict_blum_step evict_blum_merkle_at evict_blum_merkle_under has_key has_value get_step set_step verifier_step new_verifiers verifier_at with_verifier sum_at with_sum add_elements evict_elements all_done certify entry_code are_bits good_pointer good_value good_record good_entry epoch_named refusal place_of by_step performed respond state in_epochs_below
not_below = refl

children_here : said two_keys (logged 0 (evict_merkle above_both [])) ≡ wrong
unfolding sha256 and_bits xor_bits extend_schedule rounds be_words compress pick same_bytes less_bytes bits bits_of_bytes below side path_of is_data children_of same_value is_absent is_initial le_bytes le_number pointer_bytes value_bytes merkle_bytes record_bytes find nonempty without updated found_by_merkle points_at_merkle add_merkle_at add_merkle_under evict_merkle_at evict_merkle_under same_flag evict_blum_step evict_blum_merkle_at evict_blum_merkle_under has_key has_value get_step set_step verifier_step new_verifiers verifier_at with_verifier sum_at with_sum add_elements evict_elements all_done certify entry_code are_bits good_pointer good_value good_record good_entry epoch_named refusal place_of by_step performed respond state in_epochs_below
children_here = refl

clock_moves : (verifier_at (state limits handed_over).verifiers 1).clock ≡ at 0 2
unfolding sha256 and_bits xor_bits extend_schedule rounds be_words compress pick same_bytes less_bytes bits bits_of_bytes below side path_of is_data children_of same_value is_absent is_initial le_bytes le_number pointer_bytes value_bytes merkle_bytes record_bytes find nonempty without updated found_by_merkle points_at_merkle add_merkle_at add_merkle_under evict_merkle_at evict_merkle_under same_flag evict_blum_step evict_blum_merkle_at evict_blum_merkle_under has_key has_value get_step set_step verifier_step new_verifiers verifier_at with_verifier sum_at with_sum add_elements evict_elements all_done certify entry_code are_bits good_pointer good_value good_record good_entry epoch_named refusal place_of by_step performed respond state in_epochs_below
clock_moves = refl

gets : said handed_over (logged 1 (get d (Some x))) ≡ right
unfolding sha256 and_bits xor_bits extend_schedule rounds be_words compress pick same_bytes less_bytes bits bits_of_bytes below side path_of is_data children_of same_value is_absent is_initial le_bytes le_number pointer_bytes value_bytes merkle_bytes record_bytes find nonempty without updated found_by_merkle points_at_merkle add_merkle_at add_merkle_under evict_merkle_at evict_merkle_under same_flag evict_blum_step evict_blum_merkle_at evict_blum_merkle_under has_key has_value get_step set_step verifier_step new_verifiers verifier_at with_verifier sum_at with_sum add_elements evict_elements all_done certify entry_code are_bits good_pointer good_value good_record good_entry epoch_named refusal place_of by_step performed respond state in_epochs_below
gets = refl

not_yet : (state limits (one_done y)).certified ≡ 0
unfolding sha256 and_bits xor_bits extend_schedule rounds be_words compress pick same_bytes less_bytes bits bits_of_bytes below side path_of is_data children_of same_value is_absent is_initial le_bytes le_number pointer_bytes value_bytes merkle_bytes record_bytes find nonempty without updated found_by_merkle points_at_merkle add_merkle_at add_merkle_under evict_merkle_at evict_merkle_under same_flag evict_blum_step evict_blum_merkle_at evict_blum_merkle_under has_key has_value get_step set_step verifier_step new_verifiers verifier_at with_verifier sum_at with_sum add_elements evict_elements all_done certify entry_code are_bits good_pointer good_value good_record good_entry epoch_named refusal place_of by_step performed respond state in_epochs_below
not_yet = refl

honest : said (one_done y) (logged 1 verify_epoch) ≡ certified 1
unfolding sha256 and_bits xor_bits extend_schedule rounds be_words compress pick same_bytes less_bytes bits bits_of_bytes below side path_of is_data children_of same_value is_absent is_initial le_bytes le_number pointer_bytes value_bytes merkle_bytes record_bytes find nonempty without updated found_by_merkle points_at_merkle add_merkle_at add_merkle_under evict_merkle_at evict_merkle_under same_flag evict_blum_step evict_blum_merkle_at evict_blum_merkle_under has_key has_value get_step set_step verifier_step new_verifiers verifier_at with_verifier sum_at with_sum add_elements evict_elements all_done certify entry_code are_bits good_pointer good_value good_record good_entry epoch_named refusal place_of by_step performed respond state in_epochs_below
honest = refl

elements : (length (state limits (one_done y)).adds ≡ 2) × (length (state limits (one_done y)).evicts ≡ 2)
unfolding sha256 and_bits xor_bits extend_schedule rounds be_words compress pick same_bytes less_bytes bits bits_of_bytes below side path_of is_data children_of same_value is_absent is_initial le_bytes le_number pointer_bytes value_bytes merkle_bytes record_bytes find nonempty without updated found_by_merkle points_at_merkle add_merkle_at add_merkle_under evict_merkle_at evict_merkle_under same_flag evict_blum_step evict_blum_merkle_at evict_blum_merkle_under has_key has_value get_step set_step verifier_step new_verifiers verifier_at with_verifier sum_at with_sum add_elements evict_elements all_done certify entry_code are_bits good_pointer good_value good_record good_entry epoch_named refusal place_of by_step performed respond state in_epochs_below
elements = (refl, refl)

stale : said (one_done x) (logged 1 verify_epoch) ≡ wrong
unfolding sha256 and_bits xor_bits extend_schedule rounds be_words compress pick same_bytes less_bytes bits bits_of_bytes below side path_of is_data children_of same_value is_absent is_initial le_bytes le_number pointer_bytes value_bytes merkle_bytes record_bytes find nonempty without updated found_by_merkle points_at_merkle add_merkle_at add_merkle_under evict_merkle_at evict_merkle_under same_flag evict_blum_step evict_blum_merkle_at evict_blum_merkle_under has_key has_value get_step set_step verifier_step new_verifiers verifier_at with_verifier sum_at with_sum add_elements evict_elements all_done certify entry_code are_bits good_pointer good_value good_record good_entry epoch_named refusal place_of by_step performed respond state in_epochs_below
stale = refl

done_with : said (logged 0 verify_epoch ∷ given_back) (logged 0 (add_blum (data_record d (Some y)) (at 0 2) 1)) ≡ wrong
unfolding sha256 and_bits xor_bits extend_schedule rounds be_words compress pick same_bytes less_bytes bits bits_of_bytes below side path_of is_data children_of same_value is_absent is_initial le_bytes le_number pointer_bytes value_bytes merkle_bytes record_bytes find nonempty without updated found_by_merkle points_at_merkle add_merkle_at add_merkle_under evict_merkle_at evict_merkle_under same_flag evict_blum_step evict_blum_merkle_at evict_blum_merkle_under has_key has_value get_step set_step verifier_step new_verifiers verifier_at with_verifier sum_at with_sum add_elements evict_elements all_done certify entry_code are_bits good_pointer good_value good_record good_entry epoch_named refusal place_of by_step performed respond state in_epochs_below
done_with = refl

pub returns : goal.returns
returns c =
    record {
      not_below = not_below;
      children_here = children_here;
      clock_moves = clock_moves;
      gets = gets;
      not_yet = not_yet;
      honest = honest;
      elements = elements;
      stale = stale;
      done_with = done_with;
    }
