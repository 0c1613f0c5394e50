-- The worked values hold, by computation: what is unfolded is lib.Ieee's operations, and then what the list calls of model. Assumes nothing.
use lib.Ieee.{neg, add, sub, mul, div, lt, eq, le, ne, is_nan, of_bits, to_bits}
use Rattle.model.specs.Root.{sqrt}
use Rattle.model.specs.Arith.{abs, fmax, fmin, modulus, hypot, inner_from, inner_prod}
use Rattle.model.specs.Jacobi.{rotg, adjoint, apply_right}
use Rattle.model.specs.Schur22.{unlike_signs, is_standard, standard, eigenvalues_of, values_of, lahqr_schur22}
use Rattle.model.specs.Form.{some, deep_in, touching_in, two_block, line2, line17, line3, line4, line5, line6, line7}
use Rattle.model.specs.Columns.{rotate_at, rotate_run, on_columns, on_rows, on_form, on_factor}
use Rattle.model.specs.Swaps.{declines_in, and_then, rotation11, swap11, swap_of}
use Rattle.model.specs.Exchange.{standardise_if, exchange_whole, exchange_by, exchange, line8, line9, crosses, line10, exchange_line, factor_rows, exchange_call}
use Rattle.model.specs.Move.{first_row, size_at, size_above, exchanging, arrived, landed_whole, down_whole, down_step, down_by, up_whole, up_step, up_by, goal_down, move_from, move, move_line, move_call}
use Rattle.model.specs.Vectors.{blocks_down, divisor, divided, real_one, solve_real, sum_from, rows_to, norm_columns, form_norm, on_part, negated_run, real_column, vectors_of, vectors_line, evd_from_real_schur, column_line, column_of}
use Rattle.laws.specs.Worked.{Worked}

pub worked_hold : Worked
unfolding neg add sub mul div lt eq le ne is_nan of_bits to_bits sqrt abs fmax fmin hypot modulus inner_from inner_prod rotg adjoint apply_right unlike_signs is_standard standard eigenvalues_of values_of lahqr_schur22 some deep_in touching_in two_block line2 line17 line3 line4 line5 line6 line7 rotate_at rotate_run on_columns on_rows on_form on_factor declines_in and_then rotation11 swap11 swap_of standardise_if exchange_whole exchange_by exchange line8 line9 crosses line10 exchange_line factor_rows exchange_call first_row size_at size_above exchanging arrived landed_whole down_whole down_step down_by up_whole up_step up_by goal_down move_from move move_line move_call blocks_down divisor divided real_one solve_real sum_from rows_to norm_columns form_norm on_part negated_run real_column vectors_of vectors_line evd_from_real_schur column_line column_of
worked_hold = tt
