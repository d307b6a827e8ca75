-- Places in a text.
use Rattle.std.specs.Prelude.{ℕ, ◌+◌, not, List}
use Rattle.std.specs.List.{count_by, suffix_len}
use Rattle.tc_lexer.specs.declared.place.Place.{Place}
use Rattle.tc_lexer.specs.Pieces.{is_line_feed}

-- the place right after these bytes: 1 + their line feeds, and 1 + the bytes after the last one
abbrev pub place_after : List ℕ → Place
place_after before =
    record {
      line = 1 + count_by is_line_feed before;
      col = 1 + suffix_len
          (λ b. not (is_line_feed b)) before;
    }
