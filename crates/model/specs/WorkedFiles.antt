-- Small files by computation: the numbers, entries and bytes are those of the reference program. Each rule is broken alone, and some with another.
use Rattle.std.specs.Prelude.{◌≡◌, refl, List, [], ◌∷◌, ◌++◌, map, ℕ, set, take, drop, replicate}
use Rattle.model.specs.Bytes.{number_of, bytes_in, symbols_of}
use Rattle.model.specs.Calls.{first_that_applies, within, all_below, outcome}
use Rattle.model.specs.Symbols.{tabulate}
use Rattle.model.specs.Files.{Entry, entry_of, entry_bytes, count_of, entry_at, entries_from, entries_of, bodies_in, total, entry_fits, entries_fit, symbols_fit, read_tests, read_answer, no_entry, read_outcome, part_of, read_body, Listing, listing, listed_from, listed, contents_of, file_of, file_length, lists_agree, write_tests, write_answer, filled, write_outcome, entry_words, c_read_outcome, c_lists_fit, c_write_outcome}

-- a call's inputs, and what it must give: its number and all that it hands back or leaves
data Row : Type 0 where
  read : (file : List ℕ) (place number : ℕ) (entry : Entry) (body : List ℕ) → Row
  write : (l : Listing) (output : List ℕ) (number size : ℕ) (left : List ℕ) → Row
  c_read : (file : List ℕ) (place : ℕ) (entry : List ℕ) (number : ℕ) (left : List ℕ) → Row
  c_write : (numbers tops sizes bodies output size : List ℕ) (number : ℕ) (written left : List ℕ) → Row

-- the row with what the definitions give
computed : Row → Row
unfolding tabulate first_that_applies within all_below outcome number_of bytes_in symbols_of entry_of entry_bytes count_of entry_at entries_from entries_of bodies_in total entry_fits entries_fit symbols_fit read_tests read_answer read_outcome
    part_of read_body listed_from listed contents_of file_of file_length lists_agree write_tests write_answer filled write_outcome entry_words c_read_outcome c_lists_fit c_write_outcome
computed (read file place n e b) = let o = read_outcome file place in read file place o.number o.left (read_body file place)
computed (write l output n s c) = let o = write_outcome l output in write l output o.number o.left.size o.left.output
computed (c_read file place entry n c) = let o = c_read_outcome file place entry in c_read file place entry o.number o.left
computed (c_write ns ts ss bs output size n s c) =
    let o = c_write_outcome ns ts ss bs output size in c_write ns ts ss bs output size o.number o.left.size o.left.output

-- page 3 at q = 3 with the symbols 0, 2, and page 300 at q = 256 with 7, 255, 9; the contents end at 24
abbrev two_pages : Listing
two_pages = listing (3 ∷ 300 ∷ []) (2 ∷ 255 ∷ []) (2 ∷ 3 ∷ []) (0 ∷ 2 ∷ 7 ∷ 255 ∷ 9 ∷ [])

abbrev two : List ℕ
two =
    2 ∷ 0
    ∷ 3 ∷ 0 ∷ 2 ∷ 24 ∷ 0 ∷ 0 ∷ 0 ∷ 2 ∷ 0 ∷ 0 ∷ 0
    ∷ 44 ∷ 1 ∷ 255 ∷ 26 ∷ 0 ∷ 0 ∷ 0 ∷ 3 ∷ 0 ∷ 0 ∷ 0
    ∷ 0 ∷ 2 ∷ 7 ∷ 255 ∷ 9 ∷ []

rows : List Row
rows =
    -- two pages, into an output that is 3 bytes longer, and into one that is a byte too short
    write two_pages (replicate 32 1) 0 29 (two ++ replicate 3 1)
    ∷ write two_pages (replicate 28 1) 6 0 (replicate 28 1)
    -- its places
    ∷ read two 0 0 (record { number = 3; top = 2; offset = 24; size = 2 }) (0 ∷ 2 ∷ [])
    ∷ read two 1 0 (record { number = 300; top = 255; offset = 26; size = 3 }) (7 ∷ 255 ∷ 9 ∷ [])
    ∷ read two 2 14 no_entry []
    -- a byte after the last body; a place that is not there comes before it
    ∷ read (two ++ (0 ∷ [])) 0 15 no_entry []
    ∷ read (two ++ (0 ∷ [])) 2 14 no_entry []
    -- the last byte missing: the body passes the end; contents cut short; one byte; none
    ∷ read (take 28 two) 0 14 no_entry []
    ∷ read (take 23 two) 0 13 no_entry []
    ∷ read (1 ∷ []) 0 13 no_entry []
    ∷ read [] 0 13 no_entry []
    -- a symbol above q − 1 in the first body, asked for the second; q − 1 one higher takes it
    ∷ read (set two 24 3) 1 15 no_entry []
    ∷ read (set (set two 24 3) 4 3) 1 0 (record { number = 300; top = 255; offset = 26; size = 3 }) (7 ∷ 255 ∷ 9 ∷ [])
    -- an offset one too far; from the start of the bodies
    ∷ read (set two 5 25) 0 14 no_entry []
    ∷ read (set (set two 5 0) 16 2) 0 14 no_entry []
    ∷ read (set two 16 27) 0 14 no_entry []
    -- a gap between the bodies
    ∷ read (set (take 26 two ++ (0 ∷ drop 26 two)) 16 27) 0 14 no_entry []
    -- page number 3 twice, and 4 after 3
    ∷ read (set (set two 13 3) 14 0) 0 14 no_entry []
    ∷ read (set (set two 13 4) 14 0) 1 0 (record { number = 4; top = 255; offset = 26; size = 3 }) (7 ∷ 255 ∷ 9 ∷ [])
    -- q − 1 of 1; a length of 1
    ∷ read (set two 4 1) 0 14 no_entry []
    ∷ read (set two 9 1) 0 14 no_entry []
    -- 65 pages; the count high byte first; no page
    ∷ read (set two 0 65) 0 13 no_entry []
    ∷ read (set (set two 0 0) 1 2) 0 13 no_entry []
    ∷ read (set two 0 0) 0 13 no_entry []
    -- what is wrong with an entry or the place comes after what is wrong with the count, and before a symbol
    ∷ read (set (set two 0 65) 5 25) 2 13 no_entry []
    ∷ read (set two 24 3) 2 14 no_entry []
    ∷ read (set (set two 24 3) 5 25) 0 14 no_entry []
    -- one page, an output of just the length
    ∷ write (listing (65535 ∷ []) (2 ∷ []) (2 ∷ []) (2 ∷ 1 ∷ [])) (replicate 15 9) 0 15 (1 ∷ 0 ∷ 255 ∷ 255 ∷ 2 ∷ 13 ∷ 0 ∷ 0 ∷ 0 ∷ 2 ∷ 0 ∷ 0 ∷ 0 ∷ 2 ∷ 1 ∷ [])
    ∷ read (1 ∷ 0 ∷ 255 ∷ 255 ∷ 2 ∷ 13 ∷ 0 ∷ 0 ∷ 0 ∷ 2 ∷ 0 ∷ 0 ∷ 0 ∷ 2 ∷ 1 ∷ []) 0 0 (record { number = 65535; top = 2; offset = 13; size = 2 }) (2 ∷ 1 ∷ [])
    -- lists that disagree; bodies that disagree
    ∷ write (listing (1 ∷ 2 ∷ []) (2 ∷ []) (2 ∷ 2 ∷ []) (0 ∷ 0 ∷ 0 ∷ 0 ∷ [])) (replicate 40 7) 6 0 (replicate 40 7)
    ∷ write (listing (1 ∷ []) (2 ∷ []) (3 ∷ []) (0 ∷ 0 ∷ 0 ∷ 0 ∷ [])) (replicate 40 7) 6 0 (replicate 40 7)
    -- q − 1 too low; a length too small; numbers that fall; a number twice
    ∷ write (listing (1 ∷ []) (1 ∷ []) (2 ∷ []) (0 ∷ 0 ∷ [])) (replicate 16 7) 14 0 (replicate 16 7)
    ∷ write (listing (1 ∷ []) (2 ∷ []) (1 ∷ []) (0 ∷ [])) (replicate 16 7) 14 0 (replicate 16 7)
    ∷ write (listing (2 ∷ 1 ∷ []) (2 ∷ 2 ∷ []) (2 ∷ 2 ∷ []) (0 ∷ 0 ∷ 0 ∷ 0 ∷ [])) (replicate 28 7) 14 0 (replicate 28 7)
    ∷ write (listing (1 ∷ 1 ∷ []) (2 ∷ 2 ∷ []) (2 ∷ 2 ∷ []) (0 ∷ 0 ∷ 0 ∷ 0 ∷ [])) (replicate 28 7) 14 0 (replicate 28 7)
    -- a symbol above q − 1, in the last body too
    ∷ write (listing (1 ∷ []) (2 ∷ []) (2 ∷ []) (0 ∷ 3 ∷ [])) (replicate 16 7) 15 0 (replicate 16 7)
    ∷ write (listing (1 ∷ 2 ∷ []) (3 ∷ 2 ∷ []) (2 ∷ 2 ∷ []) (0 ∷ 3 ∷ 0 ∷ 3 ∷ [])) (replicate 28 7) 15 0 (replicate 28 7)
    -- no page, and no room for none
    ∷ write (listing [] [] [] []) (replicate 4 7) 13 0 (replicate 4 7)
    ∷ write (listing [] [] [] []) (replicate 1 7) 6 0 (replicate 1 7)
    -- in C: the second page of two; an entry of 15 bytes, before all else; the two pages written; a byte too many of the numbers of no page
    ∷ c_read two 1 (replicate 16 9) 0 (44 ∷ 1 ∷ 0 ∷ 0 ∷ 255 ∷ 0 ∷ 0 ∷ 0 ∷ 26 ∷ 0 ∷ 0 ∷ 0 ∷ 3 ∷ 0 ∷ 0 ∷ 0 ∷ [])
    ∷ c_read [] 0 (replicate 15 9) 6 (replicate 15 9)
    ∷ c_write (3 ∷ 0 ∷ 44 ∷ 1 ∷ []) (2 ∷ 255 ∷ []) (2 ∷ 0 ∷ 0 ∷ 0 ∷ 3 ∷ 0 ∷ 0 ∷ 0 ∷ []) (0 ∷ 2 ∷ 7 ∷ 255 ∷ 9 ∷ []) (replicate 29 1) (replicate 4 5) 0 (29 ∷ 0 ∷ 0 ∷ 0 ∷ []) two
    ∷ c_write (0 ∷ []) [] [] [] (replicate 4 7) (replicate 4 5) 6 (replicate 4 5) (replicate 4 7)
    ∷ []

worked : map computed rows ≡ rows
unfolding computed rows
worked = refl
