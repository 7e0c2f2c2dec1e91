pub mod Acls
pub mod Build
pub mod LoadBalancers
pub mod Lookup
pub mod PortSecurity
pub mod Unit
pub mod inner
