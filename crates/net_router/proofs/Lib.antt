pub mod SwitchesAlone
