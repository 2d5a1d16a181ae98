-- How many bytes the lines of a header take at most. Room for a number line is asked for where that of `first` is put; the others stand in laws.
use Rattle.std.specs.Prelude.{ℕ, ◌+◌}

-- a name of five letters and `=`, ten digits and byte 10: the lanes, first, count and bytes lines
abbrev pub longest_number_line : ℕ
longest_number_line = 17

-- `mode=`, six letters and byte 10
abbrev pub longest_mode_line : ℕ
longest_mode_line = 12

abbrev pub longest_settings : ℕ
longest_settings = longest_number_line + longest_mode_line + longest_number_line

-- 81, with the empty line
abbrev pub longest_header : ℕ
longest_header = longest_settings + longest_number_line + longest_number_line + 1
