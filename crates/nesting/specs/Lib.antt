-- What passing the control cells one after the other means for what each net bears.
pub mod Bearing
