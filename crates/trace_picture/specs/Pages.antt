-- The page that shows a journal: HTML with one picture, which needs no other file. This project's own.
use Rattle.std.specs.Prelude.{◌≡◌, ℕ, ◌+◌, nat_le, List, ◌++◌, codes, length, if◌then◌else◌}
use Rattle.std.specs.List.{flat_map}
use Rattle.std.specs.Fmt.{decimal}
use Rattle.xom_base.specs.declared.entry.Entry.{Entry}
use Rattle.trace_picture.specs.declared.guests.GuestRow.{GuestRow}
use Rattle.trace_picture.specs.GuestTable.{guest_rows, guest_rows_text, lane_names_text}
use Rattle.trace_picture.specs.Lanes.{column_size, columns_of}
use Rattle.trace_picture.specs.Marks.{mark_text, marks_of}

-- ---- What is the same in every page

-- the page's title, and how it is laid out
abbrev pub layout_text : List ℕ
layout_text =
    codes "<!DOCTYPE html>\n<html lang=\"en\">\n<meta charset=\"utf-8\">\n<title>Journal</title>\n<style>\n"
    ++ (codes "body{font:14px/20px sans-serif;margin:16px}.picture{display:flex;margin:16px 0}\n"
    ++ (codes "ol{list-style:none;margin:0;padding:0 12px 0 0;white-space:nowrap}\n"
    ++ (codes "li{height:24px;line-height:24px}.time{flex:1;overflow-x:auto}\n"
    ++ (codes "svg{display:block;background:repeating-linear-gradient(#f1f3f6 0 23px,#fff 23px 24px)}\n"
    ++ (codes "#fit:checked~.picture svg{width:100%!important}\n"
    ++ (codes "th,td{padding:2px 12px 2px 0;text-align:left}td:nth-child(3){font-family:monospace}\n"
    ++ codes ".key span{border-left:12px solid;padding:0 16px 0 4px}\n"))))))

-- how the marks of each kind of entry are drawn: their colour and height
abbrev pub kinds_text : List ℕ
kinds_text =
    codes "rect{width:.8px;fill:currentColor}\n"
    ++ (codes ".install{color:#2b8a3e;height:.9px}.step{color:#3b6ea5;height:.3px}\n"
    ++ (codes ".trap{color:#e8890c;height:.7px}.kill{color:#555;height:.9px}\n"
    ++ (codes ".seal{color:#7048c8;height:.35px}.accept{color:#0c8599;height:.35px}\n"
    ++ (codes ".hash{color:#9aa3ad;height:.2px}.out{color:#c2255c;height:.5px}\n"
    ++ (codes ".stop{color:#e00000;height:.9px}\n"
    ++ codes "rect.stop{stroke:#e00000;stroke-width:3px;vector-effect:non-scaling-stroke}\n</style>\n")))))

-- the key to the kinds of entries
abbrev pub key_text : List ℕ
key_text =
    codes "<p class=\"key\"><span class=\"install\">install</span><span class=\"step\">step</span>\n"
    ++ (codes "<span class=\"trap\">trap</span><span class=\"stop\">stop</span>\n"
    ++ (codes "<span class=\"kill\">kill</span><span class=\"seal\">seal</span>\n"
    ++ (codes "<span class=\"accept\">accept</span><span class=\"hash\">hash</span>\n"
    ++ codes "<span class=\"out\">console byte</span>\n")))

-- how the page looks: the layout, and the colour of each kind of entry
abbrev pub head_text : List ℕ
head_text = layout_text ++ kinds_text

-- the box that shows a long picture as a whole
abbrev pub fit_text : List ℕ
fit_text =
    codes "<input type=\"checkbox\" id=\"fit\"><label for=\"fit\">fit the window</label>\n"

-- the first row of the table of guests, which names its columns
abbrev pub table_head_text : List ℕ
table_head_text =
    codes "<table>\n<tr><th>install<th>slot<th>id<th>steps<th>traps<th>end\n"

-- ---- What is said of a journal

-- how many entries it has, and how many stand in a column
abbrev pub summary_text : ℕ → List ℕ
summary_text entries =
    codes "<h1>" ++ (decimal entries ++ (codes " entries</h1>\n<p>Entries a column: "
    ++ (decimal (column_size entries) ++ codes ". Hashes that follow one another share a column.\n")))

-- how wide a column is, by their number
abbrev pub column_width_text : ℕ → List ℕ
column_width_text columns =
    if nat_le columns 100 then codes "12px" else (if nat_le columns 1000 then codes "6px" else codes "2px")

-- the picture's frame: so many columns and lanes, each lane 24 pixels high
abbrev pub frame_text : ℕ → ℕ → List ℕ
frame_text columns lanes =
    codes "<svg preserveAspectRatio=\"none\" viewBox=\"0 0 " ++ (decimal columns ++ (codes " "
    ++ (decimal lanes ++ (codes "\" style=\"width:calc(" ++ (decimal columns ++ (codes "*"
    ++ (column_width_text columns ++ (codes ");height:calc(" ++ (decimal lanes
    ++ codes "*24px)\">\n")))))))))

-- the names of the lanes on the left: a lane for memory and one a guest
abbrev pub lanes_text : List GuestRow → List ℕ
lanes_text rows =
    codes "<div class=\"picture\"><ol><li>memory\n"
    ++ (lane_names_text 1 rows ++ codes "</ol><div class=\"time\">\n")

-- the lanes, and beside their names all marks
abbrev pub picture_text : List Entry → List GuestRow → List ℕ
picture_text es rows =
    lanes_text rows ++ (frame_text (length (columns_of es)) (length rows + 1)
    ++ (flat_map mark_text (marks_of es) ++ codes "</svg></div></div>\n"))

-- the table of the guests
abbrev pub table_text : List GuestRow → List ℕ
table_text rows = table_head_text ++ (guest_rows_text 1 rows ++ codes "</table>\n</html>\n")

-- the whole page of a journal with these rows of guests
abbrev pub page_text : List Entry → List GuestRow → List ℕ
page_text es rows =
    head_text ++ (summary_text (length es)
    ++ (key_text ++ (fit_text ++ (picture_text es rows ++ table_text rows))))

-- the page of a journal
abbrev pub journal_page : List Entry → List ℕ
journal_page es = page_text es (guest_rows es)
