use Rattle.nv_base.specs.declared.text.BadText.{BadText}

-- the one error of reading
abbrev pub bad_text : BadText
bad_text = record {}
