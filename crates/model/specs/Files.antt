-- A file of pages with its contents first (N11): what its bytes say, what the reader answers and hands out, and what the writer writes.
use Rattle.std.specs.Prelude.{◌≡◌, Bool, true, not, ◌&&◌, List, [], ◌∷◌, ◌++◌, map, ℕ, zero, suc, ◌+◌, ◌*◌, eqb, ltb, leb, length, get_or, take, drop}
use Rattle.model.specs.Symbols.{Below}
use Rattle.model.specs.Calls.{Test, test, first_that_applies, within, all_below, Outcome, outcome}
use Rattle.model.specs.Bytes.{word_of, number_of, bytes_in, symbols_of}

-- ---- what the bytes say

-- "Numbers are low byte first.": the number in the w bytes from a place on
abbrev pub number_at : List ℕ → ℕ → ℕ → ℕ
number_at bytes start w = number_of (take w (drop start bytes))

-- "one 11-byte entry a page: page number (2 bytes ..), q − 1 (1 byte ..), offset from the file's start (4), length (4 ..)"
pub record Entry : Type 0 where
  pub number : ℕ
  pub top : ℕ
  pub offset : ℕ
  pub size : ℕ

-- the entry that bytes start with, and its 11 bytes
unfoldable pub entry_of : List ℕ → Entry
entry_of bytes = record { number = number_at bytes 0 2; top = number_at bytes 2 1; offset = number_at bytes 3 4; size = number_at bytes 7 4 }

unfoldable pub entry_bytes : Entry → List ℕ
entry_bytes e = bytes_in 2 e.number ++ (bytes_in 1 e.top ++ (bytes_in 4 e.offset ++ bytes_in 4 e.size))

-- "The file starts with a 2-byte count"
unfoldable pub count_of : List ℕ → ℕ
count_of file = number_at file 0 2

-- where the count and so many entries end
abbrev pub contents_end : ℕ → ℕ
contents_end count = 2 + 11 * count

-- the entry at a "place in the contents, from 0"
unfoldable pub entry_at : List ℕ → ℕ → Entry
entry_at file place = entry_of (drop (contents_end place) file)

-- so many entries from a place on, and as many as the count says
unfoldable pub entries_from : List ℕ → ℕ → ℕ → List Entry
entries_from file place zero = []
entries_from file place (suc n) = entry_at file place ∷ entries_from file (suc place) n

unfoldable pub entries_of : List ℕ → List Entry
entries_of file = entries_from file 0 (count_of file)

-- "The bodies follow in entry order, right after the contents": the bodies, joined
unfoldable pub bodies_in : List ℕ → List ℕ
bodies_in file = drop (contents_end (count_of file)) file

abbrev pub numbers_of : List Entry → List ℕ
numbers_of = map (λ e. e.number)

abbrev pub tops_of : List Entry → List ℕ
tops_of = map (λ e. e.top)

abbrev pub sizes_of : List Entry → List ℕ
sizes_of = map (λ e. e.size)

unfoldable pub total : List ℕ → ℕ
total [] = 0
total (n ∷ ns) = n + total ns

-- ---- the rules, of the reader and of the writer

-- An entry whose page number may be `least` or more and whose body must start at `start`, in a file that ends at `end`: "page number (.. strictly
-- ascending), q − 1 (.. 2 to 255), offset from the file's start .., length (.. 2 to 8,192)", and no body passes the file's end
unfoldable pub entry_fits : ℕ → ℕ → ℕ → Entry → Bool
entry_fits least start end e =
    leb least e.number && (within 2 255 e.top && (within 2 8192 e.size && (eqb e.offset start && leb (e.offset + e.size) end)))

-- "page number (.. strictly ascending)"; bodies "in entry order, right after the contents and without gaps"
unfoldable pub entries_fit : ℕ → ℕ → ℕ → List Entry → Bool
entries_fit least start end [] = true
entries_fit least start end (e ∷ es) = entry_fits least start end e && entries_fit (suc e.number) (e.offset + e.size) end es

-- no symbol of the bodies, joined in entry order, is above the q − 1 of its page
unfoldable pub symbols_fit : List Entry → List ℕ → Bool
symbols_fit [] bodies = true
symbols_fit (e ∷ es) bodies = all_below (suc e.top) (take e.size bodies) && symbols_fit es (drop e.size bodies)

-- ---- the reader

-- "Tested after 6", which is for what only the C form is lent (`fits`).
-- "13: file too long, count out of limits, or contents cut short. 14: an entry breaks a rule, a body passes the file's end, or the place is not below the
-- count. 15: bytes after the last body, or a symbol above q − 1."
unfoldable pub read_tests : Bool → List ℕ → ℕ → List Test
read_tests fits file place =
    test 6 (not fits)
    ∷ test 13 (not (leb (length file) 65536 && (within 1 64 (count_of file) && leb (contents_end (count_of file)) (length file))))
    ∷ test 14 (not (entries_fit 0 (contents_end (count_of file)) (length file) (entries_of file) && ltb place (count_of file)))
    ∷ test 15 (not (eqb (contents_end (count_of file) + total (sizes_of (entries_of file))) (length file) && symbols_fit (entries_of file) (bodies_in file)))
    ∷ []

unfoldable pub read_answer : Bool → List ℕ → ℕ → ℕ
read_answer fits file place = first_that_applies (read_tests fits file place)

-- "Refused, they give 0 for every number they work out, and an empty part."
abbrev pub no_entry : Entry
no_entry = record { number = 0; top = 0; offset = 0; size = 0 }

-- "The reader hands out a page .., by its place in the contents, from 0, with its page number and q − 1"
unfoldable pub read_outcome : List ℕ → ℕ → Outcome Entry
read_outcome file place = outcome (read_answer true file place) (entry_at file place) no_entry

-- "as a part of the bytes it was lent": the part of a file that an entry names, and the one that the reader hands out
unfoldable pub part_of : List ℕ → Entry → List ℕ
part_of file e = take e.size (drop e.offset file)

unfoldable pub read_body : List ℕ → ℕ → List ℕ
read_body file place = part_of file (read_outcome file place).left

-- ---- the writer

-- "A writer takes lists of page numbers, q − 1 and lengths, and the bodies joined"
pub record Listing : Type 0 where
  pub numbers : List ℕ
  pub tops : List ℕ
  pub sizes : List ℕ
  pub bodies : List ℕ

abbrev pub listing : List ℕ → List ℕ → List ℕ → List ℕ → Listing
listing numbers tops sizes bodies = record { numbers = numbers; tops = tops; sizes = sizes; bodies = bodies }

abbrev pub page_count : Listing → ℕ
page_count l = length l.numbers

-- the entries of the three lists, each body where the one before it ends, the first at `start`
unfoldable pub listed_from : ℕ → List ℕ → List ℕ → List ℕ → List Entry
listed_from start [] ts ss = []
listed_from start (n ∷ ns) [] ss = []
listed_from start (n ∷ ns) (t ∷ ts) [] = []
listed_from start (n ∷ ns) (t ∷ ts) (s ∷ ss) = record { number = n; top = t; offset = start; size = s } ∷ listed_from (start + s) ns ts ss

unfoldable pub listed : Listing → List Entry
listed l = listed_from (contents_end (page_count l)) l.numbers l.tops l.sizes

unfoldable pub contents_of : List Entry → List ℕ
contents_of [] = []
contents_of (e ∷ es) = entry_bytes e ++ contents_of es

-- the bytes of the file, and how many they are
unfoldable pub file_of : Listing → List ℕ
file_of l = bytes_in 2 (page_count l) ++ (contents_of (listed l) ++ l.bodies)

unfoldable pub file_length : Listing → ℕ
file_length l = contents_end (page_count l) + total l.sizes

-- not "lists or bodies whose lengths disagree"
unfoldable pub lists_agree : Listing → Bool
lists_agree l = eqb (length l.tops) (page_count l) && (eqb (length l.sizes) (page_count l) && eqb (total l.sizes) (length l.bodies))

-- "The writer tests likewise; 6 is an output shorter than the file, or lists or bodies whose lengths disagree", and in C what only the C form is lent
unfoldable pub write_tests : Bool → Listing → ℕ → List Test
write_tests fits l output_length =
    test 6 (not (fits && (lists_agree l && leb (file_length l) output_length)))
    ∷ test 13 (not (leb (file_length l) 65536 && within 1 64 (page_count l)))
    ∷ test 14 (not (entries_fit 0 (contents_end (page_count l)) (file_length l) (listed l)))
    ∷ test 15 (not (symbols_fit (listed l) l.bodies))
    ∷ []

unfoldable pub write_answer : Bool → Listing → ℕ → ℕ
write_answer fits l output_length = first_that_applies (write_tests fits l output_length)

-- the file's length, as a number or as bytes, and the output
pub record Written (N : Type 0) : Type 0 where
  pub size : N
  pub output : List ℕ

-- "it fills the front of its output, keeps the rest and hands back the file's length"
unfoldable pub filled : Listing → List ℕ → List ℕ
filled l output = file_of l ++ drop (file_length l) output

unfoldable pub write_outcome : Listing → List ℕ → Outcome (Written ℕ)
write_outcome l output =
    outcome (write_answer true l (length output)) (record { size = file_length l; output = filled l output }) (record { size = 0; output = output })

-- ---- in C

-- the entry found goes into 16 lent bytes: page number, q − 1, offset and length, four bytes each; the body is the part of the file that it names
unfoldable pub entry_words : Entry → List ℕ
entry_words e = word_of e.number ++ word_of e.top ++ word_of e.offset ++ word_of e.size

unfoldable pub c_read_outcome : List ℕ → ℕ → List ℕ → Outcome (List ℕ)
c_read_outcome file place entry = outcome (read_answer (eqb (length entry) 16) file place) (entry_words (entry_at file place)) entry

-- page numbers are 2 bytes each, lengths 4; there are as many pages as numbers q − 1, of one byte each; the file's length goes into 4 lent bytes
abbrev pub c_listing : List ℕ → List ℕ → List ℕ → List ℕ → Listing
c_listing numbers tops sizes bodies = listing (symbols_of 2 numbers) tops (symbols_of 4 sizes) bodies

-- the lengths in bytes of the three lists and of those 4 bytes
unfoldable pub c_lists_fit : ℕ → ℕ → ℕ → ℕ → Bool
c_lists_fit numbers tops sizes size = eqb numbers (2 * tops) && (eqb sizes (4 * tops) && eqb size 4)

unfoldable pub c_write_outcome : List ℕ → List ℕ → List ℕ → List ℕ → List ℕ → List ℕ → Outcome (Written (List ℕ))
c_write_outcome numbers tops sizes bodies output size =
    let l = c_listing numbers tops sizes bodies in
    outcome (write_answer (c_lists_fit (length numbers) (length tops) (length sizes) (length size)) l (length output))
    (record { size = word_of (file_length l); output = filled l output })
    (record { size = size; output = output })

-- ---- what is promised

-- A file that the writer can write: from some listing, into an output of just the file's length. (Page numbers are 16-bit numbers.)
pub record Writable (file : List ℕ) : Type 0 where
  pub of : Listing
  pub output : List ℕ
  pub sixteen_bit : Below 65536 of.numbers
  pub exact : length output ≡ length file
  pub outcome-of : write_outcome of output ≡ record { number = 0; left = record { size = length file; output = file } }

-- where the body at a place starts in the bodies joined, and the body
unfoldable pub start_listed : Listing → ℕ → ℕ
start_listed l place = total (take place l.sizes)

unfoldable pub body_listed : Listing → ℕ → List ℕ
body_listed l place = take (get_or l.sizes place 0) (drop (start_listed l place) l.bodies)

-- what is listed at a place: the page number, q − 1 and length, and where the body stands in the file
unfoldable pub entry_listed : Listing → ℕ → Entry
entry_listed l place = record {
  number = get_or l.numbers place 0;
  top = get_or l.tops place 0;
  offset = contents_end (page_count l) + start_listed l place;
  size = get_or l.sizes place 0;
}

-- "each place of a written file reads back as the page number, q − 1 and body listed there"
pub record ReadsBack (file : List ℕ) (l : Listing) (place : ℕ) : Type 0 where
  pub found : read_outcome file place ≡ record { number = 0; left = entry_listed l place }
  pub body : read_body file place ≡ body_listed l place

-- "keeps the rest": the output keeps its length, and all of it from the file's length on; refused, that length is 0
pub record KeepsRest (l : Listing) (output : List ℕ) : Type 0 where
  pub as_long : length (write_outcome l output).left.output ≡ length output
  pub rest : drop (write_outcome l output).left.size (write_outcome l output).left.output ≡ drop (write_outcome l output).left.size output
