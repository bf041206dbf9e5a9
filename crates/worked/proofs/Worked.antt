-- The worked examples hold, and the small whole file is accepted and has one normal form: computed from the definitions.
-- Assumes nothing.
use mathlib.Core.Path.{◌≡◌, refl}
use mathlib.Core.Bool.{true}
use mathlib.Core.List.{List, [], ◌∷◌, map}
use Prim.Native.String.{String}
use Rattle.layout.specs.Families.{is_bad}
use Rattle.layout.specs.Types.{classes, in_class, listings, among, listing_of, is_ping}
use Rattle.layout.specs.Answer.{Accepted}
use Rattle.layout.specs.Answers.{counting}
use Rattle.frame.specs.Frames.{allowed, frame, size_at, kind_at, back_at, framing}
use Rattle.frame.specs.Files.{mark, is_msb, marked}
use Rattle.frame.specs.Steps.{step_forward}
use Rattle.frame.specs.Tuples.{tuples_from, tuples_of}
use Rattle.samples.specs.Words.{words, all_words, unwords, joined, parted, samples, all_samples, unsampled, spaced}
use Rattle.samples.specs.Values.{magnitude, count_of, shortened, code_of, meant, word_for, samples_in, words_for, front, has_space, held_words}
use Rattle.samples.specs.Runs.{is_run, run_length, decode_from, samples_from, ends_from, ping_length, values, first_bad, last_run, gap}
use Rattle.samples.specs.Runs.{encode_from, behind, fewest}
use Rattle.samples.specs.Judging.{first_drop, judged_samples, judged_words}
use Rattle.links.specs.Links.{has, declared_own, compared_in, naming, first_wrong}
use Rattle.content.specs.Pings.{part_in, words_in, attribute_in, count_in, content_u, content_c, data_u, data_c}
use Rattle.content.specs.Items.{item_of, digest_of}
use Rattle.content.specs.Forms.{packs, ping_form, form_of}
use Rattle.intake.specs.Check.{ending, turn_on, turn, check_from, check_file}
use Rattle.index.specs.Index.{with_index, before_end, from_end, types_of, chosen, is_typed, index_data}
use Rattle.normal.specs.Contents.{items, content_of, normal_tuples, formed, normal_of}
use Rattle.normal.specs.Normaliser.{first_unlisted, normal_answer}
use Rattle.normal.specs.Single.{single_form, single_answer}
use Rattle.tuples.specs.Readers.{read_answer}
use Rattle.pings.specs.Readers.{sample_answer}
use Rattle.hexlines.specs.Lines.{lines_of, all_digits, bytes_in, input_from, hex, decimals}
use Rattle.hexlines.specs.Programs.{normal_file, normal_tuple}
use Rattle.worked.specs.Examples.{text, file_of, holds, all_hold, table}
use Rattle.worked.specs.Cruise.{lsb, lsb_other_cut, msb, msb_other_cut, normal}

-- every line of the table holds
pub worked : all_hold table ≡ true
unfolding table all_hold holds read_answer sample_answer normal_file normal_tuple lines_of all_digits bytes_in input_from hex decimals normal_answer
    single_form single_answer first_unlisted items content_of normal_tuples
    with_index before_end from_end types_of chosen is_typed index_data formed normal_of ending turn_on turn check_from check_file packs ping_form
    form_of item_of
    digest_of part_in words_in attribute_in count_in content_u content_c data_u data_c has naming first_wrong words all_words unwords joined parted
    samples all_samples unsampled spaced magnitude count_of shortened code_of meant word_for samples_in words_for front has_space held_words is_run
    run_length decode_from samples_from ends_from ping_length last_run gap encode_from behind fewest is_bad values first_bad first_drop
    judged_samples judged_words allowed
    frame size_at kind_at back_at framing mark is_msb marked step_forward tuples_from tuples_of classes in_class listings among listing_of
    is_ping declared_own
worked = refl

-- ---- the small whole file
abbrev variants : List (List String)
variants = lsb ∷ lsb_other_cut ∷ msb ∷ msb_other_cut ∷ []

-- each variant is accepted: six tuples, of which the channel compares one identifier and the ping another
pub accepted : map (λ (v : List String). check_file (file_of v)) variants ≡ map (λ (v : List String). Accepted (counting 6 0 2)) variants
unfolding lsb lsb_other_cut msb msb_other_cut normal_file normal_tuple lines_of all_digits bytes_in input_from hex decimals normal_answer single_form
    single_answer first_unlisted items content_of normal_tuples formed normal_of ending turn_on turn check_from check_file packs ping_form form_of
    item_of digest_of part_in words_in
    attribute_in count_in content_u content_c data_u data_c has compared_in naming first_wrong words all_words unwords joined parted
    samples all_samples unsampled spaced magnitude count_of shortened code_of meant word_for samples_in words_for front has_space held_words is_run
    run_length decode_from samples_from ends_from ping_length last_run gap encode_from behind fewest is_bad values first_bad first_drop
    judged_samples judged_words allowed
    frame size_at kind_at back_at framing mark is_msb marked step_forward tuples_from tuples_of classes in_class listings among listing_of
    is_ping declared_own
accepted = refl

-- and printed as the one normal form, which is printed as itself: a declaration a file, since each computes its index among all types
own-form : normal_file (text normal) ≡ text normal
unfolding normal normal_file normal_tuple lines_of all_digits bytes_in input_from hex decimals normal_answer
    single_form single_answer first_unlisted items content_of normal_tuples
    with_index before_end from_end types_of chosen is_typed index_data formed normal_of ending turn_on turn check_from check_file packs ping_form
    form_of item_of
    digest_of part_in words_in attribute_in count_in content_u content_c data_u data_c has naming first_wrong words all_words unwords joined parted
    samples all_samples unsampled spaced magnitude count_of shortened code_of meant word_for samples_in words_for front has_space held_words is_run
    run_length decode_from samples_from ends_from ping_length last_run gap encode_from behind fewest is_bad values first_bad first_drop
    judged_samples judged_words allowed
    frame size_at kind_at back_at framing mark is_msb marked step_forward tuples_from tuples_of classes in_class listings among listing_of
    is_ping declared_own
own-form = refl

lsb-form : normal_file (text lsb) ≡ text normal
unfolding normal lsb normal_file normal_tuple lines_of all_digits bytes_in input_from hex decimals normal_answer
    single_form single_answer first_unlisted items content_of normal_tuples
    with_index before_end from_end types_of chosen is_typed index_data formed normal_of ending turn_on turn check_from check_file packs ping_form
    form_of item_of
    digest_of part_in words_in attribute_in count_in content_u content_c data_u data_c has naming first_wrong words all_words unwords joined parted
    samples all_samples unsampled spaced magnitude count_of shortened code_of meant word_for samples_in words_for front has_space held_words is_run
    run_length decode_from samples_from ends_from ping_length last_run gap encode_from behind fewest is_bad values first_bad first_drop
    judged_samples judged_words allowed
    frame size_at kind_at back_at framing mark is_msb marked step_forward tuples_from tuples_of classes in_class listings among listing_of
    is_ping declared_own
lsb-form = refl

lsb-cut-form : normal_file (text lsb_other_cut) ≡ text normal
unfolding normal lsb_other_cut normal_file normal_tuple lines_of all_digits bytes_in input_from hex decimals normal_answer
    single_form single_answer first_unlisted items content_of normal_tuples
    with_index before_end from_end types_of chosen is_typed index_data formed normal_of ending turn_on turn check_from check_file packs ping_form
    form_of item_of
    digest_of part_in words_in attribute_in count_in content_u content_c data_u data_c has naming first_wrong words all_words unwords joined parted
    samples all_samples unsampled spaced magnitude count_of shortened code_of meant word_for samples_in words_for front has_space held_words is_run
    run_length decode_from samples_from ends_from ping_length last_run gap encode_from behind fewest is_bad values first_bad first_drop
    judged_samples judged_words allowed
    frame size_at kind_at back_at framing mark is_msb marked step_forward tuples_from tuples_of classes in_class listings among listing_of
    is_ping declared_own
lsb-cut-form = refl

msb-form : normal_file (text msb) ≡ text normal
unfolding normal msb normal_file normal_tuple lines_of all_digits bytes_in input_from hex decimals normal_answer
    single_form single_answer first_unlisted items content_of normal_tuples
    with_index before_end from_end types_of chosen is_typed index_data formed normal_of ending turn_on turn check_from check_file packs ping_form
    form_of item_of
    digest_of part_in words_in attribute_in count_in content_u content_c data_u data_c has naming first_wrong words all_words unwords joined parted
    samples all_samples unsampled spaced magnitude count_of shortened code_of meant word_for samples_in words_for front has_space held_words is_run
    run_length decode_from samples_from ends_from ping_length last_run gap encode_from behind fewest is_bad values first_bad first_drop
    judged_samples judged_words allowed
    frame size_at kind_at back_at framing mark is_msb marked step_forward tuples_from tuples_of classes in_class listings among listing_of
    is_ping declared_own
msb-form = refl

msb-cut-form : normal_file (text msb_other_cut) ≡ text normal
unfolding normal msb_other_cut normal_file normal_tuple lines_of all_digits bytes_in input_from hex decimals normal_answer
    single_form single_answer first_unlisted items content_of normal_tuples
    with_index before_end from_end types_of chosen is_typed index_data formed normal_of ending turn_on turn check_from check_file packs ping_form
    form_of item_of
    digest_of part_in words_in attribute_in count_in content_u content_c data_u data_c has naming first_wrong words all_words unwords joined parted
    samples all_samples unsampled spaced magnitude count_of shortened code_of meant word_for samples_in words_for front has_space held_words is_run
    run_length decode_from samples_from ends_from ping_length last_run gap encode_from behind fewest is_bad values first_bad first_drop
    judged_samples judged_words allowed
    frame size_at kind_at back_at framing mark is_msb marked step_forward tuples_from tuples_of classes in_class listings among listing_of
    is_ping declared_own
msb-cut-form = refl

pub one_form : map (λ (v : List String). normal_file (text v)) (normal ∷ variants)
    ≡ text normal ∷ text normal ∷ text normal ∷ text normal ∷ text normal ∷ []
one_form = λ i. own-form i ∷ lsb-form i ∷ lsb-cut-form i ∷ msb-form i ∷ msb-cut-form i ∷ []
