-- How much room a listing takes. The program takes a log of up to 65,536 bytes.
use Rattle.std.specs.Prelude.{ℕ, ◌+◌, ◌*◌, ◌≤◌, ◌≡◌, List, length, take}

abbrev pub log_limit : ℕ
log_limit = 65536

-- the longest line: numbers of 5, 3, 10 and 20 digits, and the byte that ends each
abbrev pub row_limit : ℕ
row_limit = 42

-- the longest last line: numbers of 20 and 5 digits
abbrev pub end_limit : ℕ
end_limit = 41

-- an entry has three bytes at least: the lines of the longest log, one that is cut short at its end among them, and the last line
abbrev pub rows_limit : ℕ
rows_limit = 21846 * row_limit + end_limit

-- the first line too
abbrev pub text_limit : ℕ
text_limit = 8 + rows_limit

-- n counts bytes at the start of xs, in the two forms that a part `&buf[..n]` asks for
abbrev pub Counts : ℕ → List ℕ → Type 0
Counts n xs = (n ≤ length xs) × (n ≡ length (take n xs))
